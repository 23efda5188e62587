-- The sorted tails of an open index's log make its trie, and the image of that fits. Assumes nothing.
use Prim.Native.Nat.{ℕ, suc, ◌+◌, ◌-◌, ◌*◌, ◌≤◌, ◌<◌}
use native.Mathlib.Omega.{arith}
use mathlib.Core.Path.{◌≡◌, refl, sym, ap, subst, ◌∙◌}
use mathlib.Core.Bool.{Bool, true, false, cond}
use mathlib.Core.List.Memᴰ.{head as here}
use mathlib.Core.List.Memᴰ.{not-nil}
use mathlib.Core.List.Memᴰ.{tail as later}
use mathlib.Core.List.{List, [], ◌∷◌, Memᴰ as Mem}
use lib.ListN.{length, length-append}
use Rattle.records.specs.Records.{sorted, Ordered}
use Rattle.records.proofs.Bytes.{Bytes}
use Rattle.records.proofs.Lists.{sorted_ordered, length_sorted}
use Rattle.definitions.specs.Blocks.{Piece, entries_tallied}
use Rattle.definitions.specs.Calls.{Capacity, needed}
use Rattle.trie.specs.Trie.{nodes}
use Rattle.trie.specs.Build.{Entry, parts, entered, entered_all, trie_of}
use Rattle.trie.proofs.BuildCounts.{trie_of_nodes}
use Rattle.memory_header.specs.Layout.{header_at, work_at}
use Rattle.index_memory.specs.Log.{log_in}
use Rattle.index_memory.proofs.LogBytes.{length_log_in, is_log_sound}
use Rattle.memory_header.proofs.HeaderFacts.{open_payload}
use Rattle.index_memory.proofs.Holding.{OpenIs, open_room, open_bytes}
use Rattle.tails.specs.Tails.{Tail, numbered, tail_record, tail_records}
use Rattle.tails.specs.Runs.{SoundPath}
use Rattle.tails.specs.Weights.{weights}
use Rattle.tails.proofs.High.{sound_bytes}
use Rattle.tails.proofs.Keep.{SameTails}
use Rattle.tails.proofs.Grouped.{numbered_mem}
use Rattle.tails.proofs.Runs.{run_all}
use Rattle.tails.proofs.Budget.{sorted_weights, weights_charged}
use Rattle.tails.proofs.Finished.{SoundPieces, sound_entered, finished_node, sorted_tails}
use Rattle.tail_words.specs.Tail.{tail_of_record, tails_of, tails_in, Held}
use Rattle.tail_groups.proofs.Tail.{tail_read}
use Rattle.tail_groups.proofs.Memory.{length_tail_records, held_records}
use Rattle.tail_records.proofs.Log.{log_is_sound}
use Rattle.tail_groups.proofs.Results.{length_numbered}
use Rattle.tail_groups.proofs.Distinct.{apart_sorted, numbered_apart}
use Rattle.node_writer.specs.Images.{tails_trie, ImageAsked}
use Rattle.finishing.specs.Steps.{tail_count, TailsAsked, TailsSorted}

-- ── tails of sound entries ──

-- a tail weighs one entry at least
light : (d : ℕ) (ts : List Tail) → length ts ≤ weights d ts
light d [] = omega arith
light d (t ∷ ts) = go t.entry.whole (light d ts)
  where
    go : (w : Bool) → length ts ≤ weights d ts → suc (length ts) ≤ cond w (1 + (length t.entry.path - d)) 1 + weights d ts
    go true h = omega arith
    go false h = omega arith

back : (ts : List Tail) → ((t : Tail) → Mem t ts → SoundPath t.entry.path) → tails_of (tail_records ts) ≡ ts
back [] f = refl
back (t ∷ ts) f =
    let p = f t (here refl) in
    let e : tail_of_record (tail_record t) ≡ t = tail_read t p.short (sound_bytes t.entry.path p) in
    let r : tails_of (tail_records ts) ≡ ts = back ts (λ u m. f u (later m)) in
    cc

-- tails in memory are those of their records
held_back : (s : List ℕ) (work n : ℕ) → Held s work 0 n → tails_in s work 0 n ≡ tails_of (tail_records (tails_in s work 0 n))
unfolding tails_in
held_back s work n h = ap tails_of (held_records {s = s} {work = work} {lo = 0} {hi = n} h)

-- ── the trie of sorted tails ──

some_entries : (p : Piece) (ps : List Piece) → 1 ≤ length (entered_all (p ∷ ps))
some_entries p ps =
    let whole : Entry = record { path = p.bytes; at = p.at; whole = true } in
    omega (arith, length-append (entered p) (entered_all ps), length-append (parts p.at p.bytes) (whole ∷ []))

sorted_trie : (ps : List Piece) (ts : List Tail) → SoundPieces ps → tail_records ts ≡ sorted (tail_records (numbered 0 (entered_all ps))) → SameTails ts (numbered 0 (entered_all ps)) → tails_trie ts ≡ trie_of ps
sorted_trie [] [] s e k = refl
sorted_trie [] (t ∷ ts) s e k = absurd (not-nil (k.to t (here refl)))
sorted_trie (p ∷ ps) [] s e k =
    let all : List Tail = numbered 0 (entered_all (p ∷ ps)) in
    absurd (omega (arith, ap length e, length_sorted (tail_records all), length_tail_records all, length_numbered 0 (entered_all (p ∷ ps)), some_entries p ps))
sorted_trie (p ∷ ps) (t ∷ ts) s e k = finished_node (p ∷ ps) (omega arith) s (t ∷ ts) e k

-- ── an open index ──

byte_of : (bs : List ℕ) → Bytes bs → (b : ℕ) → Mem b bs → b < 256
byte_of [] f b x'' = elim x'' [ ]
byte_of (c ∷ bs) f b (here e) = subst (λ (x : ℕ). x < 256) (sym e) (f 0)
byte_of (c ∷ bs) f b (later m) = byte_of bs (λ k. f (suc k)) b m

module _ (m : List ℕ) (c : Capacity) (pieces : ℕ) (b : Bytes m) (o : OpenIs m c (log_in m pieces 64)) where
  abbrev ps : List Piece
  ps = log_in m pieces 64

  abbrev all : List Tail
  all = numbered 0 (entered_all ps)

  count : (header_at m).payload ≡ pieces
  count = o.payload ∙ length_log_in m pieces 64

  in_log : 64 + 48 * pieces ≤ length m
  in_log = omega (arith, open_room m (header_at m) o.header o.phase, count)

  entry_room : (header_at m).capacity.entries ≡ c.entries
  entry_room = ap (λ (x : Capacity). x.entries) o.capacity

  pub held_memory : needed c ≤ length m
  held_memory = subst (λ (x : Capacity). needed x ≤ length m) o.capacity o.header.held

  pub small_nodes : c.nodes ≤ 1048576
  small_nodes = subst (λ (x : Capacity). x.nodes ≤ 1048576) o.capacity o.header.few_nodes

  pub small_entries : c.entries ≤ 1048576
  small_entries = subst (λ (x : Capacity). x.entries ≤ 1048576) o.capacity o.header.few_entries

  pub few_tails : tail_count m pieces ≤ c.entries
  few_tails = omega (arith, o.few_entries, weights_charged 0 ps, light 0 all, length_numbered 0 (entered_all ps))

  sound_pieces : SoundPieces ps
  sound_pieces p k = record { short = (o.sound p k).small; bytes = byte_of p.bytes (open_bytes m c ps b o p k) }

  sound_all : (t : Tail) → Mem t all → SoundPath t.entry.path
  sound_all t k = sound_entered ps sound_pieces t.entry (numbered_mem 0 (entered_all ps) k)

  -- where the work area begins
  module _ (work : ℕ) (at : work ≡ work_at c) where
    pub tails_asked : TailsAsked m pieces work
    tails_asked = record {
      sound = log_is_sound m pieces 64 (is_log_sound m pieces 64 in_log o.sound);
      before = omega (arith, open_payload m (header_at m) o.header o.phase, count, entry_room);
      room = omega (arith, few_tails, held_memory);
    }

    module _ (s : List ℕ) (n : ℕ) (w : TailsSorted m s pieces work n) where
      abbrev ts : List Tail
      ts = tails_in s work 0 n

      same : SameTails ts all
      same =
          let k = sorted_tails all in
          let e : ts ≡ k.0 =
          held_back s work n w.held ∙ ap tails_of (w.tails ∙ sym k.1) ∙ back k.0 (λ t h. sound_all t (k.2.to t h)) in
          subst (λ (x : List Tail). SameTails x all) (sym e) k.2

      pub trie_is : tails_trie ts ≡ trie_of ps
      trie_is = sorted_trie ps ts sound_pieces w.tails same

      weights_are : weights 0 ts ≡ entries_tallied ps
      weights_are = sorted_weights 0 ts all w.tails ∙ weights_charged 0 ps

      pub image_asked : ImageAsked s work n
      image_asked = record {
        held = w.held;
        memory = omega (arith, w.long, w.count, few_tails, held_memory);
        run = run_all ts (subst Ordered (sym w.tails) (sorted_ordered (tail_records all))) (λ t h. sound_all t (same.to t h));
        apart = apart_sorted ts all w.tails (numbered_apart 0 (entered_all ps));
        room = omega (arith, ap nodes trie_is, trie_of_nodes ps, o.few_nodes, weights_are, o.few_entries);
      }
