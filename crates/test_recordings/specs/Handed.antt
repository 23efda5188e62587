-- What a search with lent rows leaves. Assumes nothing.
use Rattle.std.specs.Prelude.{ℕ, ◌≡◌, get_or, IfOk}
use Rattle.definitions.specs.Refusals.{number_in}
use Rattle.rows.specs.declared.Row.{Row}
use Rattle.handing_over.specs.Search.{Found}
use Rattle.test_recordings.specs.declared.Handed.{Handed}

-- a row before the search
abbrev pub before : Row
before = record { address = 7; created_at = 7; destroyed_at = 7 }

-- the answer, and the row at an index
pub record IsHanded (f : Found) (at : ℕ) (h : Handed) : Type 0 where
  pub refusal : number_in h.answer ≡ f.refusal
  pub count : IfOk h.answer (λ n. n ≡ f.count)
  pub row : h.row ≡ get_or f.rows at before
