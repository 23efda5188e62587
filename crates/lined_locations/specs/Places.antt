-- Where locations stand in memory, by their numbers. Assumes nothing.
use Rattle.std.specs.Prelude.{ℕ, ◌+◌, ◌*◌, ◌≤◌, ◌<◌, ◌≡◌, List, length}
use Rattle.words.specs.Words.{le64}
use Rattle.definitions.specs.Location.{Location, location_at}
use Rattle.definitions.specs.Calls.{header_size}
use Rattle.memory_header.specs.Layout.{logged_size}
use Rattle.lined_locations.specs.declared.LineKind.{LineKind}
use Rattle.lined_locations.specs.declared.LineKind.TheVariants.{Row, Logged}

-- the number of entry i of the certificate from index `base` on
abbrev pub number_at : List ℕ → (base i : ℕ) → ℕ
number_at s base i = le64 s (base + 16 * i)

-- where location i stands: behind those before it, or by the number of a piece in the log
abbrev pub place_by : LineKind → List ℕ → (base i : ℕ) → ℕ
place_by Row s base i = base + 24 * i
place_by Logged s base i = header_size + logged_size * number_at s base i + 24

abbrev pub location_by : LineKind → List ℕ → (base i : ℕ) → Location
location_by kind s base i = location_at s (place_by kind s base i)

-- the numbers and the locations lie within the memory
pub record Within (kind : LineKind) (s : List ℕ) (base count : ℕ) : Type 0 where
  pub numbers : kind ≡ Logged → base + 16 * count ≤ length s
  pub places : (i : ℕ) → i < count → place_by kind s base i + 24 ≤ length s
