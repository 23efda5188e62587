-- A search for a right number finds what the plain search of it does; one for a wrong number finds nothing. Assumes nothing.
use Prim.Native.Nat.{ℕ}
use mathlib.Core.Path.{◌≡◌, refl, sym, subst}
use mathlib.Core.Bool.{Bool, true, false, not, cond}
use mathlib.Core.List.{List}
use mathlib.Core.Option.{some}
use lib.ListN.{length}
use Rattle.definitions.specs.Location.{Location}
use Rattle.definitions.specs.Rows.{rows}
use Rattle.definitions.specs.Causes.{index_rule_broken, before_finish, wrong_number, first_cause, refusal_of}
use Rattle.definitions.specs.Calls.{number_checks}
use Rattle.check_character.specs.Number.{number_in, right}
use Rattle.index_memory.specs.Index.{standing_of, read_index}
use Rattle.row_buffer.specs.Answer.{Finding, refused}
use Rattle.finding.specs.Find.{RowsFound, rows_or_refused, find_memory}
use Rattle.finding.proofs.FindCall.{Finds}
use Rattle.number_finding.specs.FindNumber.{find_number_memory}

module _ (m typed : List ℕ) (scratch room : ℕ) where
  pub right_is_find : right typed ≡ true → find_number_memory m typed scratch room ≡ find_memory m (number_in typed) scratch room
  unfolding find_number_memory find_memory
  right_is_find e = rw e refl

  pub wrong_is_refused : right typed ≡ false → find_number_memory m typed scratch room ≡ refused (refusal_of (first_cause (number_checks (standing_of (read_index m)) false)))
  unfolding find_number_memory
  wrong_is_refused e = rw e (go (standing_of (read_index m)).broken (not (standing_of (read_index m)).finished) (rows (standing_of (read_index m)).pieces (number_in typed)))
    where
      go : (o₁ o₂ : Bool) (rs : List Location)
          → rows_or_refused (cond o₁ (some index_rule_broken) (cond o₂ (some before_finish) (some wrong_number))) rs
          ≡ refused (refusal_of (cond o₁ (some index_rule_broken) (cond o₂ (some before_finish) (some wrong_number))))
      go true o₂ rs = refl
      go false true rs = refl
      go false false rs = refl

-- what was found for a right number, in scratch x before and s afterwards
pub right_finds : (m typed x : List ℕ) (room : ℕ) {s : List ℕ} {f : Finding} → right typed ≡ true → Finds (find_memory m (number_in typed) (length x) room) x s f → Finds (find_number_memory m typed (length x) room) x s f
right_finds m typed x room {s} {f} e = subst (λ (o : RowsFound). Finds o x s f) (sym (right_is_find m typed (length x) room e))
