-- The number that a stream call answers stands in its row of the table. Assumes nothing.
use Prim.Native.Nat.{ℕ, zero, suc}
use mathlib.Core.Path.{◌≡◌, refl, sym, subst}
use mathlib.Core.Bool.{Bool, true, false, ◌&&◌, cond}
use mathlib.Core.Logic.{◌⊎◌, inl, inr}
use mathlib.Core.List.Memᴰ.{head as here}
use mathlib.Core.List.Memᴰ.{not-nil}
use mathlib.Core.List.Memᴰ.{tail as later}
use mathlib.Core.List.{List, [], ◌∷◌, Memᴰ as Mem}
use mathlib.Core.Option.{Option, none, some}
use lib.ListN.{length, take}
use lib.Dec.{eqb}
use Rattle.definitions.specs.Blocks.{Block}
use Rattle.definitions.specs.BlockStream.{Read, block, nothing, refused, read_block}
use Rattle.definitions.specs.Causes.{Cause, number, first_cause, checked, record_call, record_stream_call, read_block_call, numbered}
use Rattle.definitions.specs.Calls.{Standing, stream_checks}
use Rattle.definitions.proofs.Checks.{checks_in_order}
use Rattle.definitions.proofs.Tests.{and_left, and_right}
use Rattle.index_memory.specs.Index.{standing_of, read_index}
use Rattle.recording.specs.Record.{record_memory}
use Rattle.stream_recording.specs.Stream.{stopped, behind, record_read, record_from, unless_stopped, record_stream}
use Rattle.stream_recording.specs.Promises.{StreamNumbers}
use Rattle.stream_recording.proofs.Refusals.{From, decides, read_refused, record_refused}

-- the number is 0 or in the row
abbrev InRow : ℕ → Type 0
InRow n = (n ≡ 0) ⊎ (numbered n (checked record_stream_call) ≡ true)

-- all causes of a list have their numbers in the row
abbrev all_in_row : List Cause → Bool
all_in_row [] = true
all_in_row (c ∷ cs) = numbered (number c) (checked record_stream_call) && all_in_row cs

in_row : {c : Cause} (cs : List Cause) → all_in_row cs ≡ true → Mem c cs → InRow (number c)
in_row [] t m = absurd (not-nil m)
in_row (k ∷ cs) t (here e) = subst (λ (x : Cause). InRow (number x)) (sym e) (inr (and_left (numbered (number k) (checked record_stream_call)) (all_in_row cs) t))
in_row (k ∷ cs) t (later m) = in_row cs (and_right (numbered (number k) (checked record_stream_call)) (all_in_row cs) t) m

from_row : {n : ℕ} (row : List Cause) → all_in_row row ≡ true → From row n → InRow n
from_row row t f = subst InRow (sym f.is) (in_row row t f.listed)

by_record : (m : List ℕ) (kind : ℕ) (b : Block) → InRow (record_memory m kind b).refusal
by_record m kind b = go (record_refused m kind b)
  where
    go : ((record_memory m kind b).refusal ≡ 0) ⊎ From (checked record_call) (record_memory m kind b).refusal → InRow (record_memory m kind b).refusal
    go (inl e) = inl e
    go (inr f) = from_row (checked record_call) refl f

by_blocks : (s : List ℕ) (count at : ℕ) (m : List ℕ) → InRow (record_from count s at m).refusal
unfolding record_from
by_blocks s zero at m = inl refl
by_blocks s (suc count) at m = by_read (read_block s at) refl (by_blocks s count)
  where
    by_answer : (kind : ℕ) (b : Block) (next : ℕ) → ((x : List ℕ) → InRow (record_from count s next x).refusal) → (o : Bool)
        → InRow (cond o (behind 1 (record_from count s next (record_memory m kind b).memory)) (stopped (record_memory m kind b).refusal (record_memory m kind b).memory)).refusal
    by_answer kind b next ih true = ih (record_memory m kind b).memory
    by_answer kind b next ih false = by_record m kind b

    by_read : (x : Read) → x ≡ read_block s at → ((next : ℕ) (y : List ℕ) → InRow (record_from count s next y).refusal) → InRow (record_read x m (record_from count s)).refusal
    by_read (block kind b next) e ih = by_answer kind b next (ih next) (eqb (record_memory m kind b).refusal 0)
    by_read nothing e ih = inl refl
    by_read (refused n) e ih = from_row (checked read_block_call) refl (read_refused s at n e)

pub stream_numbers : StreamNumbers
unfolding record_stream
stream_numbers m s = go (first_cause (stream_checks st)) refl
  where
    st : Standing
    st = standing_of (read_index m)

    go : (o : Option Cause) → first_cause (stream_checks st) ≡ o → InRow (unless_stopped o m (record_from (suc (length s)) s 0 m)).refusal
    go none e = by_blocks s (suc (length s)) 0 m
    go (some c) e = in_row (take 2 (checked record_stream_call)) refl (subst (Mem c) (checks_in_order.stream_order st) (decides (stream_checks st) c e))
