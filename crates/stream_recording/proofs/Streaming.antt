-- A stream recorded block by block before the header is written: what is left to be recorded, recorded, is always the same.
-- Assumes nothing.
use Prim.Native.Nat.{ℕ, suc, ◌+◌, ◌-◌, ◌≤◌, ◌<◌}
use native.Mathlib.Omega.{arith}
use mathlib.Core.Path.{◌≡◌, refl, sym, ap, ◌∙◌, subst}
use mathlib.Core.Bool.{Bool, true, false, cond}
use mathlib.Core.List.{List}
use lib.ListN.{length, get_or}
use lib.Dec.{eqb}
use borrow.Author.Tests.{ne_eqb}
use Rattle.words.proofs.Laws.{le64_lt}
use Rattle.definitions.specs.Blocks.{Block, pieces, memory_kind}
use Rattle.definitions.specs.BlockStream.{Read, block, nothing, refused, read_block}
use Rattle.location.specs.Fits.{Fits}
use Rattle.memory_header.specs.Layout.{Header, with_header}
use Rattle.memory_header.specs.Opening.{Done}
use Rattle.index_memory.specs.Index.{Index, read_index}
use Rattle.block_stream.proofs.Bounds.{BlockRead, block_read}
use Rattle.judging.specs.Judged.{Verdict, counted}
use Rattle.judging.specs.Judged as J
use Rattle.recording.specs.Record.{logged, record_memory}
use Rattle.recording.specs.Enter.{Pending, judged_by_kind, unless_turned_back, settled}
use Rattle.recording.proofs.Entering.{some_number, entered_records, entered_pending}
use Rattle.stream_recording.specs.Stream.{StreamDone, stopped, behind, on_or_stopped, record_read, record_from, stream_by, record_stream}
use Rattle.stream_recording.specs.Progress.{Progress, halted, on_or_halted, next_progress, entered_next}

-- what a memory holds decides
pub stream_as : (m s : List ℕ) (i : Index) → read_index m ≡ i → stream_by i m s ≡ record_stream m s
unfolding record_stream
stream_as m s i e = ap (λ (x : Index). stream_by x m s) (sym e)

-- the numbers of a block in a stream of bytes
pub block_fits : (s : List ℕ) (at kind : ℕ) (b : Block) (next : ℕ) → ((k : ℕ) → get_or s k 0 < 256) → BlockRead s at kind b next → Fits b.at
block_fits s at kind b next bytes r =
    subst (λ (x : Block). Fits x.at) (sym r.is)
    (record { address = le64_lt s (at + 1) bytes; created = le64_lt s (at + 17) bytes; destroyed = le64_lt s (at + 25) bytes })

behind_none : (d : StreamDone) → behind 0 d ≡ d
behind_none d = λ i. record { taken = e i; refusal = d.refusal; memory = d.memory }
  where
    e : 0 + d.taken ≡ d.taken
    e = omega arith

behind_more : (k : ℕ) (d : StreamDone) → behind k (behind 1 d) ≡ behind (k + 1) d
behind_more k d = λ i. record { taken = e i; refusal = d.refusal; memory = d.memory }
  where
    e : k + (1 + d.taken) ≡ k + 1 + d.taken
    e = omega arith

module _ (s m₀ : List ℕ) where
  -- all that is asked
  abbrev all : StreamDone
  all = record_from (suc (length s)) s 0 m₀

  -- what is left of it
  abbrev left : ℕ → List ℕ → Progress → StreamDone
  left count m p = cond p.going (record_from count s p.at (with_header m p.header)) (stopped p.number (with_header m p.header))

  pub record Going (m : List ℕ) (p : Progress) : Type 0 where
    pub long : length m ≡ length m₀
    pub count : ℕ
    pub enough : p.going ≡ true → p.taken + count ≡ suc (length s)
    pub few : p.taken ≤ p.at
    pub inside : p.at ≤ length s
    pub pending : Pending m p.header
    pub same : behind p.taken (left count m p) ≡ all

  pub going_start : (h : Header) → Pending m₀ h → with_header m₀ h ≡ m₀ → Going m₀ (record { header = h; at = 0; taken = 0; number = 0; going = true })
  going_start h p e = record {
    long = refl;
    count = suc (length s);
    enough = λ _. omega arith;
    few = omega arith;
    inside = omega arith;
    pending = p;
    same = behind_none _ ∙ ap (record_from (suc (length s)) s 0) e;
  }

  -- one block more: by what is read, and by the verdict
  module _ (m : List ℕ) (long : length m ≡ length m₀) (p : Progress) (few : p.taken ≤ p.at) (inside : p.at ≤ length s) (pending : Pending m p.header) (k : ℕ) (enough : p.taken + suc k ≡ suc (length s))
      (bytes : (k : ℕ) → get_or s k 0 < 256) where
    abbrev whole : List ℕ
    whole = with_header m p.header

    halts : (n : ℕ) → behind p.taken (stopped n whole) ≡ all → Going m (halted p n)
    halts n e = record { long = long; count = 0; enough = λ z. absurd (let y : ◌≡◌ {A = ℕ} 0 1 = cc in omega arith); few = few; inside = inside; pending = pending; same = e }

    by_verdict : (kind : ℕ) (b : Block) (next : ℕ) → BlockRead s p.at kind b next → (x : List ℕ) (v : Verdict)
        → (J.refused 0 ≡ v → ⊥) → record_memory whole kind b ≡ settled v p.header (unless_turned_back v m x)
        → ((h : Header) → v ≡ counted h → Pending (unless_turned_back v m x) h)
        → behind p.taken (on_or_stopped (record_memory whole kind b) (record_from k s next)) ≡ all → length (unless_turned_back v m x) ≡ length m₀
        → Going (unless_turned_back v m x) (on_or_halted p next v)
    by_verdict kind b next r x (counted h) z e w a l = record {
      long = l;
      count = k;
      enough = λ _. omega (arith, enough);
      few = omega (arith, few, r.behind);
      inside = r.within;
      pending = w h refl;
      same = sym (behind_more p.taken _) ∙ ap (λ (d : Done). behind p.taken (on_or_stopped d (record_from k s next))) (sym e) ∙ a;
    }
    by_verdict kind b next r x (J.refused n) z e w a l = halts n (sym (ap (behind p.taken) (ap (λ (d : Done). on_or_stopped d (record_from k s next)) e ∙ stops n (λ y. z (ap J.refused (sym y))))) ∙ a)
      where
        stops : (n : ℕ) → (n ≡ 0 → ⊥) → on_or_stopped (record { refusal = n; memory = whole }) (record_from k s next) ≡ stopped n whole
        stops n y = rw (ne_eqb n 0 y) refl

    by_read : (x : Read) → x ≡ read_block s p.at → behind p.taken (record_read x whole (record_from k s)) ≡ all → length (entered_next m p.header x) ≡ length m₀
        → Going (entered_next m p.header x) (next_progress m p x)
    by_read (block kind b next) e a l =
        let r : BlockRead s p.at kind b next = block_read s p.at kind b next e in
        by_verdict kind b next r (cond (eqb kind memory_kind) (logged m p.header (pieces b)) m) (judged_by_kind m p.header kind b)
        (λ z. some_number m p.header kind b 0 z refl)
        (entered_records m p.header kind b pending)
        (λ h v. entered_pending m p.header h kind b pending (block_fits s p.at kind b next bytes r) v)
        a l
    by_read nothing e a l = halts 0 a
    by_read (refused n) e a l = halts n a

  pub going_on : ((k : ℕ) → get_or s k 0 < 256) → (m : List ℕ) (p : Progress) → Going m p → p.going ≡ true → (m' : List ℕ) (r : Progress)
      → r ≡ next_progress m p (read_block s p.at) → m' ≡ entered_next m p.header (read_block s p.at) → length m' ≡ length m → Going m' r
  unfolding record_from
  going_on bytes m p g t m' r e f l =
      let n : g.count ≡ suc (g.count - 1) = omega (arith, g.enough t, g.few, g.inside) in
      let a : behind p.taken (record_read (read_block s p.at) (with_header m p.header) (record_from (g.count - 1) s)) ≡ all =
      ap (λ (c : ℕ). behind p.taken (record_from c s p.at (with_header m p.header))) (sym n) ∙ sym (ap (λ (o : Bool). behind p.taken (cond o (record_from g.count s p.at (with_header m p.header)) (stopped p.number (with_header m p.header)))) t) ∙ g.same in
      let w = by_read m g.long p g.few g.inside g.pending (g.count - 1) (omega (arith, g.enough t, n)) bytes (read_block s p.at) refl a (sym (ap length f) ∙ l ∙ g.long) in
      subst (λ (x : List ℕ). Going x r) (sym f) (subst (Going (entered_next m p.header (read_block s p.at))) (sym e) w)

  -- the cursor moves on, or there is no more
  pub moves_on : (m : List ℕ) (p : Progress) (x : Read) → x ≡ read_block s p.at → (next_progress m p x).going ≡ true → p.at < (next_progress m p x).at
  moves_on m p (block kind b next) e t = go (judged_by_kind m p.header kind b) t
    where
      go : (v : Verdict) → (on_or_halted p next v).going ≡ true → p.at < (on_or_halted p next v).at
      go (counted h) t = omega (arith, (block_read s p.at kind b next e).behind)
      go (J.refused n) t = absurd (let y : ◌≡◌ {A = ℕ} 0 1 = cc in omega arith)
  moves_on m p nothing e t = absurd (let y : ◌≡◌ {A = ℕ} 0 1 = cc in omega arith)
  moves_on m p (refused n) e t = absurd (let y : ◌≡◌ {A = ℕ} 0 1 = cc in omega arith)

  -- blocks that may come, and the end
  abbrev pub steps_left : Progress → ℕ
  steps_left p = cond p.going (suc (length s - p.at)) 0

  pub fewer_left : (m m' : List ℕ) (p r : Progress) → p.going ≡ true → r ≡ next_progress m p (read_block s p.at) → Going m' r → steps_left r < steps_left p
  fewer_left m m' p r t e g = rw t (go r.going refl)
    where
      go : (o : Bool) → r.going ≡ o → cond o (suc (length s - r.at)) 0 < suc (length s - p.at)
      go true q =
          let w = moves_on m p (read_block s p.at) refl (sym (ap (λ (x : Progress). x.going) e) ∙ q) in
          omega (arith, w, ap (λ (x : Progress). x.at) e, g.inside)
      go false q = omega arith

  -- where it goes no further, the header is all that is left to be written
  pub going_end : (m : List ℕ) (p : Progress) → Going m p → p.going ≡ false → record { taken = p.taken; refusal = p.number; memory = with_header m p.header } ≡ all
  going_end m p g t =
      let e : p.taken ≡ p.taken + 0 = omega arith in
      (λ i. record { taken = e i; refusal = p.number; memory = with_header m p.header })
      ∙ sym (ap (λ (o : Bool). behind p.taken (cond o (record_from g.count s p.at (with_header m p.header)) (stopped p.number (with_header m p.header)))) t) ∙ g.same
