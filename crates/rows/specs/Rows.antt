-- Locations as rows, and rows put over lent ones. Assumes nothing.
use Rattle.std.specs.Prelude.{List, [], ◌∷◌, ◌++◌, length, drop}
use Rattle.definitions.specs.Location.{Location}
use Rattle.rows.specs.declared.Row.{Row}

-- a location as a row
abbrev pub row_of : Location → Row
row_of l = record { address = l.address; created_at = l.created; destroyed_at = l.destroyed }

-- locations as rows, one each
unfoldable pub rows_of : List Location → List Row
rows_of [] = []
rows_of (l ∷ ls) = row_of l ∷ rows_of ls

-- lent rows after others are handed over in them: those after the last stay
abbrev pub rows_over : List Location → List Row → List Row
rows_over ls lent = rows_of ls ++ drop (length ls) lent
