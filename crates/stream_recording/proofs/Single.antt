-- A stream call is single records: its first n blocks, and what the next one gives. Assumes nothing.
use Prim.Native.Nat.{ℕ, zero, suc, ◌+◌, ◌≤◌, ◌<◌}
use native.Mathlib.Omega.{arith}
use mathlib.Core.Path.{◌≡◌, refl, sym, ap, ◌∙◌, subst}
use mathlib.Core.Bool.{Bool, true, false, cond}
use mathlib.Core.List.{List}
use mathlib.Core.Option.{Option, none, some}
use lib.ListN.{length}
use lib.Dec.{eqb}
use borrow.Author.Tests.{eqb-true, eqb-false}
use Rattle.definitions.specs.Blocks.{Block}
use Rattle.definitions.specs.BlockStream.{Read, block, nothing, refused, read_block}
use Rattle.definitions.specs.Causes.{Cause, first_cause}
use Rattle.definitions.specs.Calls.{stream_checks}
use Rattle.definitions.proofs.Checks.{number_some}
use Rattle.index_memory.specs.Index.{standing_of, read_index}
use Rattle.block_stream.proofs.Bounds.{BlockRead, block_read}
use Rattle.recording.specs.Record.{record_memory}
use Rattle.recording.proofs.Outcome.{record_leaves}
use Rattle.stream_recording.specs.Stream.{StreamDone, stopped, behind, record_read, record_from, unless_stopped, record_stream}
use Rattle.stream_recording.specs.Promises.{first_blocks, cursor_behind, recorded_singly, AllTaken, next_number, TakesRecords, StreamIsSingle, StreamLeaves}
use Rattle.stream_recording.proofs.Refusals.{read_refused}

-- a refusal of reading has a number
refused_some : (s : List ℕ) (at n : ℕ) → refused n ≡ read_block s at → n ≡ 0 → ⊥
refused_some s at n e z =
    let f = read_refused s at n e in
    number_some f.cause (sym f.is ∙ z)

-- ---- from a cursor on

-- what a stream call gives from a cursor on is what single records give
record SinglyFrom (s : List ℕ) (at : ℕ) (m : List ℕ) (d : StreamDone) : Type 0 where
  as_many : length (first_blocks d.taken s at) ≡ d.taken
  taken : AllTaken m (first_blocks d.taken s at)
  memory : d.memory ≡ recorded_singly m (first_blocks d.taken s at)
  number : d.refusal ≡ next_number (read_block s (cursor_behind d.taken s at)) d.memory
  all : d.refusal ≡ 0 → read_block s (cursor_behind d.taken s at) ≡ nothing

module _ (s : List ℕ) (at : ℕ) (m : List ℕ) where
  -- nothing more is taken
  singly_stopped : (n : ℕ) → n ≡ next_number (read_block s at) m → (n ≡ 0 → read_block s at ≡ nothing) → SinglyFrom s at m (stopped n m)
  unfolding first_blocks cursor_behind
  singly_stopped n e f = record { as_many = refl; taken = tt; memory = refl; number = e; all = f }

  -- a block more is taken
  singly_more : (kind : ℕ) (b : Block) (next : ℕ) (d : StreamDone) → read_block s at ≡ block kind b next → (record_memory m kind b).refusal ≡ 0
      → SinglyFrom s next (record_memory m kind b).memory d → SinglyFrom s at m (behind 1 d)
  unfolding first_blocks cursor_behind
  singly_more kind b next d e z w =
      subst (λ (n : ℕ). SinglyFrom s at m (record { taken = n; refusal = d.refusal; memory = d.memory })) one
      (record { as_many = rw e (ap suc w.as_many); taken = rw e (z, w.taken); memory = rw e w.memory; number = rw e w.number; all = rw e w.all })
    where
      one : suc d.taken ≡ 1 + d.taken
      one = omega arith

module _ (s : List ℕ) where
  singly_from : (count at : ℕ) (m : List ℕ) → at ≤ length s → length s < at + count → SinglyFrom s at m (record_from count s at m)
  unfolding record_from
  singly_from zero at m h k = absurd (omega arith)
  singly_from (suc count) at m h k = by_read (read_block s at) refl (singly_from count)
    where
      -- what is known of the blocks behind
      Behind : Type 0
      Behind = (next : ℕ) (x : List ℕ) → next ≤ length s → length s < next + count → SinglyFrom s next x (record_from count s next x)

      by_answer : Behind → (kind : ℕ) (b : Block) (next : ℕ) → block kind b next ≡ read_block s at → BlockRead s at kind b next → (o : Bool) → eqb (record_memory m kind b).refusal 0 ≡ o
          → SinglyFrom s at m (cond o (behind 1 (record_from count s next (record_memory m kind b).memory)) (stopped (record_memory m kind b).refusal (record_memory m kind b).memory))
      by_answer ih kind b next e r true q =
          singly_more s at m kind b next _ (sym e) (eqb-true (record_memory m kind b).refusal 0 q)
          (ih next (record_memory m kind b).memory r.within (omega (arith, r.behind)))
      by_answer ih kind b next e r false q =
          let z = eqb-false (record_memory m kind b).refusal 0 q in
          subst (λ (x : List ℕ). SinglyFrom s at m (stopped (record_memory m kind b).refusal x)) (sym (record_leaves m kind b z))
          (singly_stopped s at m (record_memory m kind b).refusal (ap (λ (x : Read). next_number x m) e) (λ y. absurd (z y)))

      by_read : (x : Read) → x ≡ read_block s at → Behind → SinglyFrom s at m (record_read x m (record_from count s))
      by_read (block kind b next) e ih = by_answer ih kind b next e (block_read s at kind b next e) (eqb (record_memory m kind b).refusal 0) refl
      by_read nothing e ih = singly_stopped s at m 0 (ap (λ (x : Read). next_number x m) e) (λ _. sym e)
      by_read (refused n) e ih = singly_stopped s at m n (ap (λ (x : Read). next_number x m) e) (λ z. absurd (refused_some s at n e z))

-- ---- the call

-- an index that takes records has all blocks read and recorded
pub stream_is : (m s : List ℕ) → TakesRecords m → record_from (suc (length s)) s 0 m ≡ record_stream m s
unfolding record_stream
stream_is m s t = rw t refl

pub stream_is_single : StreamIsSingle
stream_is_single m s t =
    let w : SinglyFrom s 0 m (record_stream m s) = subst (SinglyFrom s 0 m) (stream_is m s t) (singly_from s (suc (length s)) 0 m (omega arith) (omega arith)) in
    record { as_many = w.as_many; taken = w.taken; memory = w.memory; number = w.number; all = w.all }

-- a call that takes no block leaves the memory as it was
none_taken : (s : List ℕ) (at : ℕ) (m : List ℕ) (rest : ℕ → List ℕ → StreamDone) (x : Read) → (record_read x m rest).taken ≡ 0 → (record_read x m rest).memory ≡ m
none_taken s at m rest (block kind b next) z = go (eqb (record_memory m kind b).refusal 0) refl z
  where
    go : (o : Bool) → eqb (record_memory m kind b).refusal 0 ≡ o
        → (cond o (behind 1 (rest next (record_memory m kind b).memory)) (stopped (record_memory m kind b).refusal (record_memory m kind b).memory)).taken ≡ 0
        → (cond o (behind 1 (rest next (record_memory m kind b).memory)) (stopped (record_memory m kind b).refusal (record_memory m kind b).memory)).memory ≡ m
    go true q z = absurd (omega arith)
    go false q z = record_leaves m kind b (eqb-false (record_memory m kind b).refusal 0 q)
none_taken s at m rest nothing z = refl
none_taken s at m rest (refused n) z = refl

pub stream_leaves : StreamLeaves
unfolding record_stream record_from
stream_leaves m s = go (first_cause (stream_checks (standing_of (read_index m))))
  where
    go : (o : Option Cause) → (unless_stopped o m (record_from (suc (length s)) s 0 m)).taken ≡ 0 → (unless_stopped o m (record_from (suc (length s)) s 0 m)).memory ≡ m
    go none z = none_taken s 0 m (record_from (length s) s) (read_block s 0) z
    go (some c) z = refl
