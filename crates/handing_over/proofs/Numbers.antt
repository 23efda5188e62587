-- A search for a typed number: what it finds has room and is handed over, and what it has to do with the plain search. Assumes nothing.
use Prim.Native.Nat.{ℕ, ◌/◌, ◌≤◌}
use native.Mathlib.Omega.{arith}
use mathlib.Core.Path.{◌≡◌, refl, sym, ap, ◌∙◌, subst}
use mathlib.Core.Bool.{Bool, true, false}
use mathlib.Core.List.{List}
use lib.ListN.{length}
use Rattle.definitions.specs.Rows.{rows}
use Rattle.definitions.specs.Causes.{first_cause, refusal_of}
use Rattle.definitions.specs.Calls.{number_checks, search_number_checks}
use Rattle.definitions.proofs.Checks.{none_applies, none_refused}
use Rattle.check_character.specs.Number.{number_in, right}
use Rattle.rows.specs.declared.Row.{Row}
use Rattle.rows.specs.Rows.{rows_of}
use Rattle.index_memory.specs.Index.{standing_of, read_index}
use Rattle.finding.specs.Find.{RowsFound}
use Rattle.number_finding.specs.FindNumber.{find_number_memory}
use Rattle.number_finding.proofs.ByNumber.{right_is_find, wrong_is_refused}
use Rattle.handing_over.specs.Search.{Found, search_memory, search_number_memory}
use Rattle.handing_over.specs.Promises.{NumberSearches}
use Rattle.handing_over.proofs.Finding.{found_fit, handed_over, pieces_handed}

pub number_fit : (m typed : List ℕ) (scratch room : ℕ) → length (find_number_memory m typed scratch room).rows ≤ room
number_fit m typed scratch room = go (right typed) refl
  where
    go : (o : Bool) → right typed ≡ o → length (find_number_memory m typed scratch room).rows ≤ room
    go true e = subst (λ (w : RowsFound). length w.rows ≤ room) (sym (right_is_find m typed scratch room e)) (found_fit m (number_in typed) scratch room)
    go false e = subst (λ (w : RowsFound). length w.rows ≤ room) (sym (wrong_is_refused m typed scratch room e)) (omega arith)

pub search_is_find_number : (m typed : List ℕ) (scratch : ℕ) (lent : List Row) → search_number_memory m typed scratch lent ≡ handed_over (find_number_memory m typed scratch (length lent)) lent
unfolding search_number_memory find_number_memory
search_is_find_number m typed scratch lent =
    pieces_handed (first_cause (search_number_checks (standing_of (read_index m)) (right typed) (number_in typed) (scratch / 24) (length lent))) (rows (standing_of (read_index m)).pieces (number_in typed)) lent

-- ── what a reader may conclude ──

right_number : (m typed : List ℕ) (scratch : ℕ) (lent : List Row) → right typed ≡ true → search_number_memory m typed scratch lent ≡ search_memory m (number_in typed) scratch lent
unfolding search_number_memory search_memory
right_number m typed scratch lent e = rw e refl

wrong_number : (m typed : List ℕ) (scratch : ℕ) (lent : List Row) → right typed ≡ false
    → search_number_memory m typed scratch lent ≡ record { refusal = refusal_of (first_cause (number_checks (standing_of (read_index m)) false)); count = 0; rows = lent }
unfolding rows_of
wrong_number m typed scratch lent e = search_is_find_number m typed scratch lent ∙ ap (λ (w : RowsFound). handed_over w lent) (wrong_is_refused m typed scratch (length lent) e)

answered_right : (m typed : List ℕ) (scratch : ℕ) (lent : List Row) → (search_number_memory m typed scratch lent).refusal ≡ 0 → right typed ≡ true
answered_right m typed scratch lent h = go (right typed) refl
  where
    go : (o : Bool) → right typed ≡ o → o ≡ true
    go true e = refl
    go false e =
        let checks = number_checks (standing_of (read_index m)) false in
        let n = sym (ap (λ (g : Found). g.refusal) (wrong_number m typed scratch lent e)) ∙ h in
        sym (none_applies checks (none_refused (first_cause checks) n)).1.1.0

pub number_searches : NumberSearches
number_searches = record { right_number = right_number; wrong_number = wrong_number; answered_right = answered_right }
