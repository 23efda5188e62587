-- A call that is refused leaves all as it was. Assumes nothing.
use Prim.Native.Nat.{ℕ, ◌/◌}
use mathlib.Core.Path.{◌≡◌, refl}
use mathlib.Core.List.{List}
use mathlib.Core.Option.{Option, none, some}
use lib.ListN.{length}
use Rattle.definitions.specs.Location.{Location}
use Rattle.definitions.specs.Rows.{rows}
use Rattle.definitions.specs.Causes.{Cause, first_cause}
use Rattle.definitions.specs.Calls.{Capacity, open_checks, finish_checks, search_checks, search_number_checks}
use Rattle.check_character.specs.Number.{number_in, right}
use Rattle.memory_header.specs.Opening.{fresh_memory, open_memory}
use Rattle.index_memory.specs.Index.{standing_of, read_index}
use Rattle.recording.proofs.Outcome.{record_leaves}
use Rattle.stream_recording.proofs.Single.{stream_leaves}
use Rattle.memory_header.proofs.Opening.{refused_leaves}
use Rattle.rows.specs.declared.Row.{Row}
use Rattle.saving.proofs.Theorems.{save_leaves, load_leaves}
use Rattle.string_index.specs.Finish.{finished_by, finish_memory}
use Rattle.handing_over.specs.Search.{found_or_refused, search_memory, search_number_memory}
use Rattle.string_index.specs.Promises.{RefusedLeaves}

open_leaves : (m : List ℕ) (c : Capacity) → ((open_memory m c).refusal ≡ 0 → ⊥) → (open_memory m c).memory ≡ m
unfolding open_memory
open_leaves m c = refused_leaves (first_cause (open_checks c (length m))) m (fresh_memory m c)

finish_leaves : (m : List ℕ) → ((finish_memory m).refusal ≡ 0 → ⊥) → (finish_memory m).memory ≡ m
unfolding finish_memory
finish_leaves m = refused_leaves (first_cause (finish_checks (standing_of (read_index m)))) m (finished_by (read_index m) m)

found_leaves : (o : Option Cause) (rs : List Location) (lent : List Row) → ((found_or_refused o rs lent).refusal ≡ 0 → ⊥) → (found_or_refused o rs lent).rows ≡ lent
found_leaves none rs lent f = absurd (f refl)
found_leaves (some c) rs lent f = refl

search_leaves : (m q : List ℕ) (scratch : ℕ) (lent : List Row) → ((search_memory m q scratch lent).refusal ≡ 0 → ⊥) → (search_memory m q scratch lent).rows ≡ lent
unfolding search_memory
search_leaves m q scratch lent =
    found_leaves (first_cause (search_checks (standing_of (read_index m)) q (scratch / 24) (length lent))) (rows (standing_of (read_index m)).pieces q) lent

search_number_leaves : (m typed : List ℕ) (scratch : ℕ) (lent : List Row) → ((search_number_memory m typed scratch lent).refusal ≡ 0 → ⊥) → (search_number_memory m typed scratch lent).rows ≡ lent
unfolding search_number_memory
search_number_leaves m typed scratch lent =
    found_leaves (first_cause (search_number_checks (standing_of (read_index m)) (right typed) (number_in typed) (scratch / 24) (length lent))) (rows (standing_of (read_index m)).pieces (number_in typed)) lent

pub all_leave : RefusedLeaves
all_leave = record { open_leaves = open_leaves; record_leaves = record_leaves; stream_leaves = stream_leaves; finish_leaves = finish_leaves; search_leaves = search_leaves; search_number_leaves = search_number_leaves; save_leaves = save_leaves; load_leaves = load_leaves }
