-- A set of places as its user sees it: what was added so far, whatever the state. Assumes nothing.
use Rattle.std.specs.Prelude.{ℕ, ◌+◌, ◌-◌, ◌*◌, ◌≤◌, ◌≡◌, false, List, length}
use Rattle.definitions.specs.Location.{Location, normal, locations_in}
use Rattle.place_buffer.specs.declared.PlaceSet.{PlaceSet}
use Rattle.place_buffer.specs.Scratch.{room}
use Rattle.place_buffer.specs.Buffer.{held}
use Rattle.place_lookup.specs.Lookup.{Within}

-- the set p is that of the places xs, and is not refused
pub record Holding (p : PlaceSet) (xs : List Location) : Type 0 where
  pub only : Within (held p) xs
  pub all : Within xs (held p)
  pub live : p.known.full ≡ false

-- the places from base to next - 1 are the set of the places xs, ascending
pub record Settled (s : List ℕ) (base : ℕ) (xs : List Location) (next : ℕ) : Type 0 where
  pub count : next ≡ base + length (normal xs)
  pub within : next ≤ room s
  pub places : locations_in s (next - base) (base * 24) ≡ normal xs
