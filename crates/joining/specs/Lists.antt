-- Lists of locations in an image and spans of places in scratch, as the code hands them over. Assumes nothing.
use Rattle.std.specs.Prelude.{ℕ, ◌+◌, ◌-◌, ◌*◌, ◌≤◌, List, length}
use Rattle.definitions.specs.Location.{Location, Sorted, locations_in, Less}
use Rattle.location_lists.specs.declared.List.{List as Listing}
use Rattle.joining.specs.declared.Span.{Span}

-- the locations of a list
abbrev pub listed : List ℕ → Listing → List Location
listed img l = locations_in img l.count l.at

-- they lie within the image
abbrev pub Inside : List ℕ → Listing → Type 0
Inside img l = l.at + l.count * 24 ≤ length img

-- and ascend
pub record Ascends (img : List ℕ) (l : Listing) : Type 0 where
  pub within : l.at + l.count * 24 ≤ length img
  pub sorted : Sorted Less (listed img l)

-- the places of a span
abbrev pub spanned : List ℕ → Span → List Location
spanned s b = locations_in s (b.to - b.from) (b.from * 24)
