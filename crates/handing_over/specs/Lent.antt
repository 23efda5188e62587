-- The lent rows after a search. Assumes nothing.
use Rattle.std.specs.Prelude.{ℕ, List, Result, Ok, Err}
use Rattle.definitions.specs.Location.{locations_in}
use Rattle.definitions.specs.declared.refusal.Refusal.{Refusal}
use Rattle.rows.specs.declared.Row.{Row}
use Rattle.rows.specs.Rows.{rows_over}

-- those that were found stand at the front of scratch, and are put over the first that are lent; a refusal leaves these
abbrev pub put_over : Result ℕ Refusal → List ℕ → List Row → List Row
put_over (Ok n) s rows = rows_over (locations_in s n 0) rows
put_over (Err r) s rows = rows
