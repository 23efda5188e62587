-- Document 01, "Rows": one pass over T(0), sorted, that joins lives that touch. Assumes nothing.
use Rattle.std.specs.Prelude.{ℕ, ◌≤◌, ◌<◌, ◌≡◌, Bool, ◌&&◌, cond, List, [], ◌∷◌, eqb}
use Rattle.definitions.specs.Location.{Location}
use Rattle.definitions.specs.Blocks.{Piece}
use Rattle.definitions.specs.Places.{places}

-- the next has the same address and is created at the current end
abbrev pub goes_on : Location → Location → Bool
goes_on l m = eqb l.address m.address && eqb l.destroyed m.created

-- the current end becomes the next one's end
abbrev pub lengthened : Location → Location → Location
lengthened l m = record { address = l.address; created = l.created; destroyed = m.destroyed }

-- the pass, l being the current one
abbrev pub combined : Location → List Location → List Location
combined l [] = l ∷ []
combined l (m ∷ ms) = cond (goes_on l m) (combined (lengthened l m) ms) (l ∷ combined m ms)

abbrev pub combine_split_times : List Location → List Location
combine_split_times [] = []
combine_split_times (l ∷ ls) = combined l ls

-- the rows of a query; an empty query has none
abbrev pub rows : List Piece → List ℕ → List Location
rows ps q = combine_split_times (places ps q)

-- by address and then first tick, with a gap between two rows at one address
pub record Before (l m : Location) : Type 0 where
  pub address_le : l.address ≤ m.address
  pub gap : l.address ≡ m.address → l.destroyed < m.created
