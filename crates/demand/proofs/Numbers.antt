-- Demand 3 for typed numbers: a right one is searched for as its 13 characters are. Assumes nothing.
use Prim.Native.Nat.{ℕ, ◌/◌}
use native.Mathlib.Omega.{arith}
use mathlib.Core.Path.{◌≡◌, refl, sym, ap, ◌∙◌, subst}
use mathlib.Core.Bool.{true, false}
use mathlib.Core.List.{List, []}
use mathlib.Core.Option.{Option, none, some}
use lib.ListN.{length, length-take}
use Rattle.definitions.specs.Location.{Location}
use Rattle.definitions.specs.Rows.{rows}
use Rattle.definitions.specs.Runs.{Query}
use Rattle.definitions.specs.Causes.{Cause, wrong_number, first_cause, refusal_of}
use Rattle.definitions.specs.Calls.{number_checks, search_checks}
use Rattle.definitions.proofs.Checks.{none_applies, none_refused}
use Rattle.check_character.specs.Number.{number_in, right}
use Rattle.check_character.proofs.Characters.{character_in, character_small}
use Rattle.check_character.proofs.Detecting.{Right, right_view}
use Rattle.rows.specs.declared.Row.{Row}
use Rattle.index_memory.specs.Index.{standing_of, read_index}
use Rattle.handing_over.specs.Search.{Found, found_or_refused, search_memory, search_number_memory}
use Rattle.handing_over.proofs.Numbers.{number_searches}
use Rattle.demand.specs.Demand.{Recording, final, HandsOver, Exactly}
use Rattle.demand.specs.Numbers.{NumberRowsExact, WrongRefused, RightByBuffers, RightAnswers, ShiftNumberRowsExact, NumberDemand}
use Rattle.demand.proofs.Theorem.{demand}

-- ── the number as a query ──

long : (typed : List ℕ) → Right typed → length (number_in typed) ≡ 13
long typed t = simp length-take (omega (arith, t.length_14))

asked : (typed : List ℕ) → Right typed → Query (number_in typed)
asked typed t = record {
  short = omega (arith, long typed t);
  bytes = λ b h. omega (arith, character_small b (character_in (number_in typed) t.in_range b h));
}

-- ── after a recording ──

refusal_is : (o : Option Cause) (rs : List Location) (lent : List Row) → (found_or_refused o rs lent).refusal ≡ refusal_of o
refusal_is none rs lent = refl
refusal_is (some c) rs lent = refl

-- the memory is refused for nothing, since an empty query is answered there
ready : (r : Recording) → first_cause (number_checks (standing_of (read_index (final r))) false) ≡ some wrong_number
unfolding search_memory
ready r =
    let s = standing_of (read_index (final r)) in
    let o = first_cause (search_checks s [] (0 / 24) 0) in
    let n = none_applies (search_checks s [] (0 / 24) 0) (none_refused o (sym (refusal_is o (rows s.pieces []) []) ∙ (demand.empty_query r 0 []).0)) in
    rw (n.0, n.1.0) refl

rows_exact : (r : Recording) → NumberRowsExact r
rows_exact r typed scratch lent e =
    let k = number_searches.answered_right (final r) typed scratch lent e in
    let t = right_view typed k in
    let i = number_searches.right_number (final r) typed scratch lent k in
    let w = demand.rows_exact r (number_in typed) (asked typed t) (omega (arith, long typed t)) scratch lent (sym (ap (λ (f : Found). f.refusal) i) ∙ e) in
    (k, (w.0, subst (λ (f : Found). HandsOver f w.0) (sym i) w.1, w.2))

wrong_refused : (r : Recording) → WrongRefused r
wrong_refused r typed scratch lent e =
    number_searches.wrong_number (final r) typed scratch lent e ∙ (λ i. record { refusal = refusal_of (ready r i); count = 0; rows = lent })

by_buffers : (r : Recording) → RightByBuffers r
by_buffers r typed scratch lent e = rw (number_searches.right_number (final r) typed scratch lent e) (demand.only_buffers r (number_in typed) (asked typed (right_view typed e)) scratch lent)

answers : (r : Recording) → RightAnswers r
answers r typed e =
    let w = demand.answers r (number_in typed) (asked typed (right_view typed e)) in
    (w.0, w.1, λ scratch lent h k. ap (λ (f : Found). f.refusal) (number_searches.right_number (final r) typed scratch lent e) ∙ w.2 scratch lent h k)

shift_rows_exact : ShiftNumberRowsExact
shift_rows_exact r w typed scratch lent e =
    subst (λ (m : List ℕ). (search_number_memory m typed scratch lent).refusal ≡ 0 → (right typed ≡ true) × ((rs : _) × HandsOver (search_number_memory m typed scratch lent) rs × Exactly w.recording (number_in typed) rs)) w.same_final
    (rows_exact w.recording typed scratch lent) e

pub number_demand : NumberDemand
number_demand = record { rows_exact = rows_exact; wrong_refused = wrong_refused; by_buffers = by_buffers; answers = answers; shift_rows_exact = shift_rows_exact }
