-- Lists of calls with stream calls among them: their single calls leave the same memory. Assumes nothing.
use Prim.Native.Nat.{ℕ, zero, suc, ◌+◌, ◌≤◌, ◌<◌}
use native.Mathlib.Omega.{arith}
use mathlib.Core.Path.{◌≡◌, refl, sym, ap, ◌∙◌, subst}
use mathlib.Core.Logic.{◌⊎◌, inl, inr}
use mathlib.Core.List.Memᴰ.{append_cases}
use mathlib.Core.List.Memᴰ.{append_right}
use mathlib.Core.List.Memᴰ.{head as here}
use mathlib.Core.List.Memᴰ.{not-nil}
use mathlib.Core.List.Memᴰ.{tail as later}
use mathlib.Core.List.{List, [], ◌∷◌, ◌++◌, Memᴰ as Mem}
use mathlib.Core.Option.{Option, none, some}
use lib.ListN.{length, get_or, take, drop, get_or-eq_default}
use Rattle.std.proofs.lemmas.Bool.{cases_lt}
use Rattle.words.proofs.Laws.{le64_lt}
use Rattle.definitions.specs.BlockStream.{Read, block, nothing, refused, data_length, block_at, read_block}
use Rattle.definitions.specs.Causes.{Cause, first_cause}
use Rattle.definitions.specs.Calls.{stream_checks}
use Rattle.definitions.specs.Recording.{Call, finish}
use Rattle.definitions.proofs.Order.{mem_get_or}
use Rattle.trie.proofs.BuildOrder.{mem_drop}
use Rattle.memory_header.specs.Opening.{open_memory}
use Rattle.index_memory.specs.Index.{standing_of, read_index}
use Rattle.block_stream.proofs.Bounds.{block_read}
use Rattle.recording.specs.Record.{record_memory}
use Rattle.saving.specs.Saving.{save_memory}
use Rattle.stream_recording.specs.Stream.{record_from, unless_stopped, record_stream}
use Rattle.stream_recording.specs.Promises.{Sent, sent_next, first_blocks, recorded_singly}
use Rattle.stream_recording.proofs.Single.{stream_is_single}
use Rattle.string_index.specs.Finish.{finish_memory}
use Rattle.handing_over.specs.Search.{search_memory}
use Rattle.demand.specs.Demand.{memory_after, memory_after_all, Fits, CallFits, Recording, HandsOver, Exactly}
use Rattle.demand.specs.Shift.{ShiftCall, single, stream, memory_after_shift, memory_after_shifts, records, singles, flattened, ShiftFits, Flattens, ShiftRowsExact, StreamImage}
use Rattle.demand.proofs.Theorem.{demand}

-- ---- the memory

-- calls behind calls
after_append : (m : List ℕ) (ks js : List Call) → memory_after_all m (ks ++ js) ≡ memory_after_all (memory_after_all m ks) js
after_append m [] js = refl
after_append m (k ∷ ks) js = after_append (memory_after m k) ks js

after_records : (m : List ℕ) (xs : List Sent) → memory_after_all m (records xs) ≡ recorded_singly m xs
after_records m [] = refl
after_records m (x ∷ xs) = after_records (record_memory m x.kind x.sent).memory xs

-- a stream call leaves what its records leave, on an index that takes no records too
stream_singly : (m s : List ℕ) → (record_stream m s).memory ≡ recorded_singly m (first_blocks (record_stream m s).taken s 0)
unfolding record_stream first_blocks
stream_singly m s = go (first_cause (stream_checks (standing_of (read_index m)))) refl
  where
    go : (o : Option Cause) → first_cause (stream_checks (standing_of (read_index m))) ≡ o
        → (unless_stopped o m (record_from (suc (length s)) s 0 m)).memory ≡ recorded_singly m (first_blocks (unless_stopped o m (record_from (suc (length s)) s 0 m)).taken s 0)
    go none e =
        let w = (stream_is_single m s e).memory in
        rw e at w
    go (some c) e = refl

after_singles : (m : List ℕ) (k : ShiftCall) → memory_after_all m (singles m k) ≡ memory_after_shift m k
after_singles m (single k) = refl
after_singles m (stream s) = after_records m (first_blocks (record_stream m s).taken s 0) ∙ sym (stream_singly m s)

after_flattened : (m : List ℕ) (ks : List ShiftCall) → memory_after_all m (flattened m ks) ≡ memory_after_shifts m ks
after_flattened m [] = refl
after_flattened m (k ∷ ks) =
    after_append m (singles m k) (flattened (memory_after_shift m k) ks)
    ∙ ap (λ (x : List ℕ). memory_after_all x (flattened (memory_after_shift m k) ks)) (after_singles m k)
    ∙ after_flattened (memory_after_shift m k) ks

-- ---- what callers can hand in

abbrev AllBytes : List ℕ → Type 0
AllBytes s = (x : ℕ) → Mem x s → x < 256

byte_at : (s : List ℕ) → AllBytes s → (k : ℕ) → get_or s k 0 < 256
byte_at s f k = go (cases_lt k (length s))
  where
    go : (k < length s) ⊎ (length s ≤ k) → get_or s k 0 < 256
    go (inl h) = f (get_or s k 0) (mem_get_or s k h)
    go (inr h) = omega (arith, get_or-eq_default s 0 h)

mem_take : {x : ℕ} (n : ℕ) (xs : List ℕ) → Mem x (take n xs) → Mem x xs
mem_take zero xs h = absurd (not-nil h)
mem_take (suc n) [] h = absurd (not-nil h)
mem_take (suc n) (y ∷ xs) (here e) = here e
mem_take (suc n) (y ∷ xs) (later h) = later (mem_take n xs h)

block_fits : (s : List ℕ) → AllBytes s → (at : ℕ) → Fits (block_at s at)
block_fits s f at = record {
  bytes = λ x h. f x (mem_drop (at + 33) s (mem_take (data_length s at) (drop (at + 33) s) h));
  address = omega (arith, le64_lt s (at + 1) (byte_at s f));
  created = omega (arith, le64_lt s (at + 17) (byte_at s f));
  destroyed = omega (arith, le64_lt s (at + 25) (byte_at s f));
}

blocks_fit : (s : List ℕ) → AllBytes s → (n at : ℕ) (k : Call) → Mem k (records (first_blocks n s at)) → CallFits k
unfolding first_blocks
blocks_fit s f zero at k h = absurd (not-nil h)
blocks_fit s f (suc n) at k h = go (read_block s at) refl (blocks_fit s f n) h
  where
    go : (x : Read) → x ≡ read_block s at → ((next : ℕ) (j : Call) → Mem j (records (first_blocks n s next)) → CallFits j) → Mem k (records (sent_next x (first_blocks n s))) → CallFits k
    go (block kind b next) e ih (here q) = subst CallFits (sym q) (subst Fits (sym (block_read s at kind b next e).is) (block_fits s f at))
    go (block kind b next) e ih (later q) = ih next k q
    go nothing e ih q = absurd (not-nil q)
    go (refused c) e ih q = absurd (not-nil q)

singles_fit : (m : List ℕ) (k : ShiftCall) → ShiftFits k → (j : Call) → Mem j (singles m k) → CallFits j
singles_fit m (single k) f j (here e) = subst CallFits (sym e) f
singles_fit m (single k) f j (later h) = absurd (not-nil h)
singles_fit m (stream s) f j h = blocks_fit s f (record_stream m s).taken 0 j h

flattened_fit : (m : List ℕ) (ks : List ShiftCall) → ((k : ShiftCall) → Mem k ks → ShiftFits k) → (j : Call) → Mem j (flattened m ks) → CallFits j
flattened_fit m [] f j h = absurd (not-nil h)
flattened_fit m (k ∷ ks) f j h = go (append_cases (singles m k) h) (flattened_fit (memory_after_shift m k) ks (λ x w. f x (later w)) j)
  where
    go : Mem j (singles m k) ⊎ Mem j (flattened (memory_after_shift m k) ks) → (Mem j (flattened (memory_after_shift m k) ks) → CallFits j) → CallFits j
    go (inl w) ih = singles_fit m k (f k (here refl)) j w
    go (inr w) ih = ih w

-- ---- the finish

flattened_finish : (m : List ℕ) (ks : List ShiftCall) → Mem (single finish) ks → Mem finish (flattened m ks)
flattened_finish m [] h = absurd (not-nil h)
flattened_finish m (k ∷ ks) (here e) = subst (λ (x : ShiftCall). Mem finish (singles m x ++ flattened (memory_after_shift m k) ks)) e (here refl)
flattened_finish m (k ∷ ks) (later h) = append_right (singles m k) (flattened_finish (memory_after_shift m k) ks h)

-- ---- recordings

pub flattens : Flattens
flattens r =
    let m : List ℕ = (open_memory r.memory r.capacity).memory in
    let single-calls : Recording = record {
      memory = r.memory;
      capacity = r.capacity;
      calls = flattened m r.calls;
      opened = r.opened;
      fit = flattened_fit m r.calls r.fit;
      finished = flattened_finish m r.calls r.finished;
    } in
    record { recording = single-calls; same_memory = refl; same_capacity = refl; same_calls = refl; same_final = after_flattened m r.calls }

pub shift_rows_exact : ShiftRowsExact
shift_rows_exact r w q h l scratch lent e =
    subst (λ (m : List ℕ). (search_memory m q scratch lent).refusal ≡ 0 → (rs : _) × HandsOver (search_memory m q scratch lent) rs × Exactly w.recording q rs) w.same_final
    (demand.rows_exact w.recording q h l scratch lent) e

pub stream_image : StreamImage
stream_image m s buffer = ap (λ (x : List ℕ). save_memory (finish_memory x).memory buffer) (sym (after_singles m (stream s)))
