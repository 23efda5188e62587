-- A block entered before the header is written: by its kind and its checks, and what it tells of recording. Assumes nothing.
use Prim.Native.Nat.{ℕ, suc, ◌+◌, ◌≤◌, ◌<◌}
use native.Mathlib.Omega.{arith}
use mathlib.Core.Path.{◌≡◌, refl, sym, ap, ◌∙◌, subst}
use mathlib.Core.Bool.{Bool, true, false, cond}
use mathlib.Core.Logic.{inr}
use mathlib.Core.List.Memᴰ.{head as here}
use mathlib.Core.List.Memᴰ.{tail as later}
use mathlib.Core.List.{List, [], ◌∷◌, ◌++◌, Memᴰ as Mem}
use mathlib.Core.Option.{Option, none, some}
use lib.ListN.{length, get_or}
use lib.Seq.{length-sets}
use lib.Dec.{ltb, eqb}
use borrow.Author.Tests.{ltb-false, le-ltb, eq-eqb, ne_eqb}
use Rattle.words.specs.Holding.{Holds}
use Rattle.words.proofs.Holding.{holds_ext}
use Rattle.words.proofs.Parts.{get_or_sets_out}
use Rattle.definitions.specs.Blocks.{Block, Piece, pieces, memory_kind, last_kind}
use Rattle.definitions.specs.Conflicts.{clash, free}
use Rattle.definitions.specs.Causes.{Cause, number, unknown_kind, Check, first_cause}
use Rattle.definitions.specs.Calls.{Capacity, kind_checks, block_checks}
use Rattle.definitions.proofs.Checks.{number_some, NoneApplies, none_applies}
use Rattle.definitions.proofs.Cutting.{PieceOf, piece_of}
use Rattle.definitions.proofs.Views.{Eq, eq}
use Rattle.memory_header.specs.Layout.{Room, Header, work_at, header_bytes, with_header}
use Rattle.memory_header.proofs.HeaderBytes.{length_header}
use Rattle.memory_header.specs.Opening.{unless_refused}
use Rattle.location.specs.Fits.{Fits}
use Rattle.index_memory.specs.Log.{AllSmall, log_in}
use Rattle.index_memory.proofs.LogBytes.{AllSound, log_ext, is_log_sound}
use Rattle.index_memory.specs.Index.{Index, open_header, read_index}
use Rattle.index_memory.proofs.Charges.{charge_count}
use Rattle.index_memory.proofs.Holding.{OpenIs, open_is, room_open}
use Rattle.conflicts.specs.Order.{certificate}
use Rattle.conflicts.specs.Promises.{filled}
use Rattle.certificate.specs.Stored.{pieces_in, Stored}
use Rattle.certificate.proofs.Bytes.{length_certificate}
use Rattle.certificate.proofs.Counting.{filled_upto, filled_append}
use Rattle.judging.specs.Judged.{piece_count, grown, Verdict, counted, refused, verdict, judged_checks, judged}
use Rattle.recording.specs.Record.{logged, appended, Fitting, filled_after, record_by, record_memory}
use Rattle.recording.specs.Enter.{Pending, judged_by_kind, unless_turned_back, entered, settled, FilledAfter}
use Rattle.recording.specs.Promises.{EnteredRecords, EnteredPending, EnteredFilled}
use Rattle.recording.proofs.Appending.{header_over}
use Rattle.recording.proofs.Cut.{pieces_length}
use Rattle.recording.proofs.Taken.{grown_is, checks_are, read_appended}
use Rattle.recording.proofs.Taken as taken

-- ---- by the tests of the code

module _ (m : List ℕ) (h : Header) (kind : ℕ) (b : Block) where
  -- a verdict and a memory are those of entering the block
  abbrev pub Enters : Verdict → List ℕ → Type 0
  Enters v m' = (v ≡ judged_by_kind m h kind b) × (m' ≡ entered m h kind b)

  module _ (k : kind ≤ 4) where
    pub kind_memory : kind ≡ 1 → (v : Verdict) → v ≡ judged h (clash (pieces b) (pieces_in m h)) (length b.bytes) b.at → Enters v (unless_turned_back v m (logged m h (pieces b)))
    kind_memory l v e = rw (le-ltb 4 kind k, eq-eqb kind 1 l, ← e) (refl, refl)

same_header : {g h : Header} → counted g ≡ counted h → g ≡ h
same_header e = cc

not_counted : {n : ℕ} {h : Header} → refused n ≡ counted h → ⊥
not_counted e = let z : ◌≡◌ {A = ℕ} 0 1 = cc in omega arith

-- no refusal has the number 0
pub some_number : (m : List ℕ) (h : Header) (kind : ℕ) (b : Block) (n : ℕ) → refused n ≡ judged_by_kind m h kind b → n ≡ 0 → ⊥
some_number m h kind b n e z = go (first_cause (kind_checks kind (judged_checks h (clash (pieces b) (pieces_in m h)) (length b.bytes) b.at))) (cond (eqb kind memory_kind) (grown h (length b.bytes)) h) e
  where
    go : (a : Option Cause) (g : Header) → refused n ≡ verdict a g → ⊥
    go none g f = not_counted f
    go (some c) g f =
        let i : n ≡ number c = cc in
        number_some c (sym i ∙ z)

-- ---- under the index rule

-- with this header the memory is an open index of these pieces
abbrev Pends : List ℕ → Header → List Piece → Type 0
Pends m h rs = (w : Pending m h) × (w.pieces ≡ rs)

module _ (m : List ℕ) (h : Header) (p : Pending m h) where
  abbrev c : Capacity
  c = h.capacity

  abbrev ps : List Piece
  ps = p.pieces

  -- the memory with its header
  abbrev whole : List ℕ
  whole = with_header m h

  is : OpenIs whole c ps
  is = open_is whole c ps p.holds

  long : length whole ≡ length m
  long = length-sets m 0 (header_bytes h)

  pub header_room : 64 ≤ length m
  header_room = omega (arith, is.header.room, long)

  -- the tally is within the capacity, and has an entry for each piece
  pub tally_within : (h.nodes ≤ h.capacity.nodes) × (h.entries ≤ h.capacity.entries) × (h.payload ≤ h.entries)
  tally_within =
      let n = ap (λ (x : Header). x.nodes) p.counts in
      let e = ap (λ (x : Header). x.entries) p.counts in
      let k = ap (λ (x : Header). x.payload) p.counts in
      (omega (arith, n, is.few_nodes), omega (arith, e, is.few_entries), omega (arith, k, e, charge_count ps))

  room : Room m c
  room =
      let r = room_open whole c ps is in
      record { some_nodes = r.some_nodes; few_nodes = r.few_nodes; some_entries = r.some_entries; few_entries = r.few_entries; held = omega (arith, long, r.held) }

  counted_pieces : h.payload ≡ length ps
  counted_pieces = ap (λ (x : Header). x.payload) p.counts

  few : length ps ≤ c.entries
  few = omega (arith, is.few_entries, charge_count ps)

  -- the header lies before the log
  outside : (k : ℕ) → 64 ≤ k → get_or whole k 0 ≡ get_or m k 0
  outside k l = get_or_sets_out (header_bytes h) m 0 k (inr (omega (arith, length_header h)))

  whole_log : log_in whole (length ps) 64 ≡ ps
  whole_log = ap (λ (k : ℕ). log_in whole k 64) (sym is.payload) ∙ sym is.log

  -- the pieces stand in the memory, whatever header is written
  pub pending_pieces : pieces_in m h ≡ p.pieces
  pending_pieces =
      ap (λ (k : ℕ). log_in m k 64) counted_pieces
      ∙ sym (log_ext (length ps) 64 whole m long (omega (arith, few, room.held, long)) (subst AllSound (sym whole_log) is.sound) (λ k l r. outside k l))
      ∙ whole_log

  -- and so does their certificate
  pub pending_stored : (count : ℕ) → count ≡ filled (pieces_in m h) → Stored m h count
  pending_stored count e = record {
    sound = is_log_sound m h.payload 64 (omega (arith, few, room.held, counted_pieces)) (subst AllSound (sym pending_pieces) is.sound);
    apart = ap free pending_pieces ∙ is.apart;
    certified = subst (λ (x : List Piece). Holds m (work_at c) (certificate x)) (sym pending_pieces) (holds_ext whole m (work_at c) (certificate ps) (λ k l r. sym (outside k (omega arith))) is.certified);
    counted = e;
    some_nodes = room.few_nodes;
    some_entries = room.few_entries;
    log_room = omega (arith, few, counted_pieces);
    room = omega (arith, e, filled_upto (pieces_in m h), ap length pending_pieces, few, room.held);
  }

  -- a byte for each entry
  pub count_few : (count : ℕ) → count ≡ filled (pieces_in m h) → count ≤ 1048576
  count_few count e = omega (arith, e, filled_upto (pieces_in m h), ap length pending_pieces, few, room.few_entries)

  module _ (b : Block) where
    abbrev cause : Option Cause
    cause = first_cause (block_checks c ps b)

    -- the header that counts the block too
    abbrev new : Header
    new = open_header c (ps ++ pieces b)

    -- what it clashes with
    abbrev clashes : Bool
    clashes = clash (pieces b) (pieces_in m h)

    checks_same : judged_checks h clashes (length b.bytes) b.at ≡ block_checks c ps b
    checks_same = (λ i. judged_checks (p.counts i) (clash (pieces b) (pending_pieces i)) (length b.bytes) b.at) ∙ checks_are c ps b

    grown_same : grown h (length b.bytes) ≡ new
    grown_same = ap (λ (x : Header). grown x (length b.bytes)) p.counts ∙ grown_is c ps b

    fits : (count : ℕ) → count ≡ filled (pieces_in m h) → cause ≡ none → Fitting m h count b
    fits count k q =
        subst (λ (x : Header). Fitting m x count b) (sym p.counts)
        (taken.fitting m c ps b count room (subst (λ (x : Header). Stored m x count) p.counts (pending_stored count k)) (ap (pieces_in m) (sym p.counts) ∙ pending_pieces) q)

    -- a block that is not refused fits
    pub fitting : (count : ℕ) → count ≡ filled (pieces_in m h) → (g : Header) → counted g ≡ judged h clashes (length b.bytes) b.at → Fitting m h count b
    fitting count k g e = go cause refl
      where
        go : (a : Option Cause) → cause ≡ a → Fitting m h count b
        go none q = fits count k q
        go (some x) q =
            let f : counted g ≡ verdict (some x) new = e ∙ (λ i. verdict (first_cause (checks_same i)) (grown_same i)) ∙ ap (λ (y : Option Cause). verdict y new) q in
            absurd (not_counted (sym f))

    small : AllSmall (pieces b)
    small x k =
        let w : PieceOf b.at b.bytes x = piece_of b x k in
        w.small

    -- the header that is put before the pieces are is written over
    over : cause ≡ none → appended whole c ps (pieces b) ≡ with_header (logged m h (pieces b)) new
    unfolding appended
    over q =
        let f : Fitting m h (filled (pieces_in m h)) b = fits (filled (pieces_in m h)) refl q in
        let same : pieces_in whole (open_header c ps) ≡ pieces_in m (open_header c ps) = whole_log ∙ sym (ap (pieces_in m) (sym p.counts) ∙ pending_pieces) in
        let held : pieces_in m (open_header c ps) ≡ pieces_in m h = ap (pieces_in m) (sym p.counts) in
        let all : ℕ = filled (pieces_in m (open_header c ps) ++ pieces b) in
        let k : all ≡ filled (pieces_in m h) + filled (pieces b) = filled_append (pieces_in m (open_header c ps)) (pieces b) ∙ ap (λ (x : List Piece). filled x + filled (pieces b)) held in
        header_over m h (open_header c ps) new (pieces b) small same (omega (arith, f.log_room, f.room, counted_pieces, pieces_length b))
        (omega (arith, f.room, length_certificate (pieces_in m (open_header c ps) ++ pieces b), k, filled_upto (pieces b), pieces_length b))
        ∙ ap (λ (x : Header). with_header (logged m x (pieces b)) new) (sym p.counts)

    -- by its kind, by the checks on pieces
    module _ (kind : ℕ) where
      abbrev by_kind : List Check → Header → Verdict
      by_kind cs g = verdict (first_cause (kind_checks kind cs)) (cond (eqb kind memory_kind) g h)

      by_pieces : by_kind (block_checks c ps b) new ≡ judged_by_kind m h kind b
      by_pieces = λ i. by_kind (sym checks_same i) (sym grown_same i)

      -- what is written, if the block is taken
      abbrev written : Bool → List ℕ
      written o = cond o (logged m h (pieces b)) m

      -- the tests on the kind, and what the checks behind it find
      abbrev verdict_by : Bool → Bool → Verdict
      verdict_by o₁ o₂ = verdict (cond o₁ (some unknown_kind) (first_cause (cond o₂ (block_checks c ps b) []))) (cond o₂ new h)

      recorded_by : (o₁ o₂ : Bool) (a : Option Cause) → cause ≡ a
          → unless_refused (cond o₁ (some unknown_kind) (first_cause (cond o₂ (block_checks c ps b) []))) whole (cond o₂ (appended whole c ps (pieces b)) whole)
          ≡ settled (verdict_by o₁ o₂) h (unless_turned_back (verdict_by o₁ o₂) m (written o₂))
      recorded_by true o₂ a q = refl
      recorded_by false false a q = refl
      recorded_by false true none q = rw q (ap (λ (x : List ℕ). record { refusal = 0; memory = x }) (over q))
      recorded_by false true (some x) q = rw q refl

      pending_by : Fits b.at → (g : Header) (o₁ o₂ : Bool) (a : Option Cause) → cause ≡ a → verdict_by o₁ o₂ ≡ counted g
          → Pends (unless_turned_back (verdict_by o₁ o₂) m (written o₂)) g (cond o₂ (ps ++ pieces b) ps)
      pending_by f g true o₂ a q e = absurd (not_counted e)
      pending_by f g false false a q e =
          subst (λ (x : Header). Pends m x ps) (same_header e) (p, refl)
      pending_by f g false true none q e =
          let i : new ≡ g = same_header (sym (ap (λ (y : Option Cause). verdict y new) q) ∙ e) in
          let w : Pending (logged m h (pieces b)) new = record { pieces = ps ++ pieces b; counts = refl; holds = ap read_index (sym (over q)) ∙ read_appended whole c ps b p.holds q f } in
          rw q (subst (λ (x : Header). Pends (logged m h (pieces b)) x (ps ++ pieces b)) i (w, refl))
      pending_by f g false true (some x) q e = absurd (not_counted (sym (ap (λ (y : Option Cause). verdict y new) q) ∙ e))

pub entered_records : EnteredRecords
unfolding record_memory
entered_records m h kind b p =
    ap (λ (x : Index). record_by x (with_header m h) kind b) p.holds
    ∙ recorded_by m h p b kind (ltb last_kind kind) (eqb kind memory_kind) (cause m h p b) refl
    ∙ ap (λ (v : Verdict). settled v h (unless_turned_back v m (cond (eqb kind memory_kind) (logged m h (pieces b)) m))) (by_pieces m h p b kind)

entered_pends : (m : List ℕ) (h new : Header) (kind : ℕ) (b : Block) (p : Pending m h) → Fits b.at → judged_by_kind m h kind b ≡ counted new
    → Pends (entered m h kind b) new (cond (eqb kind memory_kind) (p.pieces ++ pieces b) p.pieces)
entered_pends m h new₀ kind b p f e =
    subst (λ (v : Verdict). Pends (unless_turned_back v m (cond (eqb kind memory_kind) (logged m h (pieces b)) m)) new₀ (cond (eqb kind memory_kind) (p.pieces ++ pieces b) p.pieces)) (by_pieces m h p b kind)
    (pending_by m h p b kind f new₀ (ltb last_kind kind) (eqb kind memory_kind) (cause m h p b) refl (by_pieces m h p b kind ∙ e))

pub entered_pending : EnteredPending
entered_pending m h new₀ kind b p f e = (entered_pends m h new₀ kind b p f e).0

-- ---- how many pieces have a byte

-- all pieces of a block that has a byte
filled_all : (ps : List Piece) → ((x : Piece) → Mem x ps → 0 < length x.bytes) → filled ps ≡ length ps
unfolding filled
filled_all [] f = refl
filled_all (x ∷ ps) f = rw (ne_eqb (length x.bytes) 0 (λ e. omega (arith, f x (here refl)))) (ap (λ (n : ℕ). suc n) (filled_all ps (λ y k. f y (later k))))

-- none of an empty one
filled_none : (ps : List Piece) → ((x : Piece) → Mem x ps → length x.bytes ≡ 0) → filled ps ≡ 0
unfolding filled
filled_none [] f = refl
filled_none (x ∷ ps) f = rw (eq-eqb (length x.bytes) 0 (f x (here refl))) (filled_none ps (λ y k. f y (later k)))

filled_block : (count : ℕ) (b : Block) → count + filled (pieces b) ≡ cond (eqb (length b.bytes) 0) count (count + piece_count (length b.bytes))
filled_block count b = go (eqb (length b.bytes) 0) (eq (length b.bytes) 0)
  where
    go : (o : Bool) → Eq o (length b.bytes) 0 → count + filled (pieces b) ≡ cond o count (count + piece_count (length b.bytes))
    go true e = omega (arith, filled_none (pieces b) (λ x k. omega (arith, e, (piece_of b x k).fits)))
    go false e = omega (arith, filled_all (pieces b) (λ x k. (piece_of b x k).some (omega (arith, e))), pieces_length b)

pub entered_filled : EnteredFilled
entered_filled m h new₀ kind b p f e = ap filled (pending_pieces (entered m h kind b) new₀ w.0 ∙ w.1) ∙ go (eqb kind memory_kind)
  where
    w : Pends (entered m h kind b) new₀ (cond (eqb kind memory_kind) (p.pieces ++ pieces b) p.pieces)
    w = entered_pends m h new₀ kind b p f e

    held : filled p.pieces ≡ filled (pieces_in m h)
    held = ap filled (sym (pending_pieces m h p))

    go : (o : Bool) → filled (cond o (p.pieces ++ pieces b) p.pieces) ≡ cond o (cond (eqb (length b.bytes) 0) (filled (pieces_in m h)) (filled (pieces_in m h) + piece_count (length b.bytes))) (filled (pieces_in m h))
    go true = filled_append p.pieces (pieces b) ∙ ap (λ (n : ℕ). n + filled (pieces b)) held ∙ filled_block (filled (pieces_in m h)) b
    go false = held

-- as a verdict and a memory of entering the block tell it
pub filled_told : (m : List ℕ) (h : Header) (kind : ℕ) (b : Block) → Pending m h → Fits b.at → (count : ℕ) → count ≡ filled (pieces_in m h) → (v : Verdict) (m' : List ℕ) → Enters m h kind b v m'
    → FilledAfter v m' count kind (length b.bytes)
filled_told m h kind b p f count e v m' w new₀ c =
    ap (λ (x : List ℕ). filled (pieces_in x new₀)) w.1 ∙ entered_filled m h new₀ kind b p f (sym w.0 ∙ c) ∙ ap (λ (n : ℕ). filled_after n kind (length b.bytes)) (sym e)

-- ---- a Memory block that is taken is short

pub counted_short : (m : List ℕ) (h g : Header) (kind : ℕ) (b : Block) → judged_by_kind m h kind b ≡ counted g → kind ≡ 1 → length b.bytes ≤ 4096
counted_short m h g kind b e k = go (first_cause (kind_checks kind checks)) refl e
  where
    checks : List Check
    checks = judged_checks h (clash (pieces b) (pieces_in m h)) (length b.bytes) b.at

    memory : (o : Bool) → o ≡ true → NoneApplies (cond o checks []) → length b.bytes ≤ 4096
    memory true q n = ltb-false 4096 (length b.bytes) n.0
    memory false q n = absurd (let z : ◌≡◌ {A = ℕ} 0 1 = cc in omega arith)

    go : (a : Option Cause) → first_cause (kind_checks kind checks) ≡ a → verdict a (cond (eqb kind memory_kind) (grown h (length b.bytes)) h) ≡ counted g → length b.bytes ≤ 4096
    go none q f = memory (eqb kind memory_kind) (eq-eqb kind memory_kind k) (none_applies (kind_checks kind checks) q).1
    go (some c) q f = absurd (not_counted f)
