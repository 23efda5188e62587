-- Locations sorted, each once, with their count before them. Assumes nothing.
use Rattle.std.specs.Prelude.{ℕ, ◌+◌, ◌*◌, ◌≤◌, ◌<◌, ◌≡◌, ◌⊎◌, List, length, get_or}
use Rattle.words.specs.Holding.{Holds}
use Rattle.definitions.specs.Location.{Location, normal}
use Rattle.image_format.specs.Image.{list_bytes}

-- s' is s with the list of the n locations ls at an index, of which r are kept; what stands behind those kept is free
pub record Closed (s s' : List ℕ) (at n : ℕ) (ls : List Location) (r : ℕ) : Type 0 where
  pub count : r ≡ length (normal ls)
  pub few : r ≤ n
  pub bytes : Holds s' at (list_bytes (normal ls))
  pub long : length s' ≡ length s
  pub away : (k : ℕ) → (k < at) ⊎ (at + 8 + 24 * n ≤ k) → get_or s' k 0 ≡ get_or s k 0
