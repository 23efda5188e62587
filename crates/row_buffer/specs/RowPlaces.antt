-- The places of a row. Assumes nothing.
use Rattle.std.specs.Prelude.{ℕ, suc, cond, List, [], ◌∷◌}
use Rattle.definitions.specs.Location.{Location, location_at}
use Rattle.definitions.specs.Rows.{goes_on, lengthened}

-- a row of which only the address and the end are asked
abbrev pub ended : ℕ → ℕ → Location
ended a d = record { address = a; created = 0; destroyed = d }

-- the row of the places from byte p to byte q on: the first one's address and creation, and the last one's end
abbrev pub row_at : List ℕ → ℕ → ℕ → Location
row_at s p q = lengthened (location_at s p) (location_at s q)

-- how many of the places behind l go on with its row
unfoldable pub going_on : Location → List Location → ℕ
going_on l [] = 0
going_on l (m ∷ ms) = cond (goes_on l m) (suc (going_on (lengthened l m) ms)) 0

-- how many places are of the first row
unfoldable pub row_size : List Location → ℕ
row_size [] = 0
row_size (l ∷ ls) = suc (going_on l ls)
