-- The entries of a certificate in memory, tested against the log. Assumes nothing.
use Rattle.lined_locations.specs.declared.LineKind.TheVariants.{Logged}
use Rattle.std.specs.Prelude.{ℕ, zero, suc, ◌+◌, ◌-◌, ◌*◌, ◌≤◌, Bool, true, not, ◌&&◌, List, length, ltb, eqb}
use Rattle.words.specs.Words.{le64}
use Rattle.definitions.specs.Location.{Location}
use Rattle.definitions.specs.Calls.{header_size}
use Rattle.memory_header.specs.Layout.{logged_size}
use Rattle.conflicts.specs.Lined.{lives_among}
use Rattle.lined_locations.specs.declared.Line.{Line}
use Rattle.lined_locations.specs.Places.{number_at, location_by}
use Rattle.lined_locations.specs.Line.{location_of}

-- all numbers below k pass a test
unfoldable pub all : (ℕ → Bool) → ℕ → Bool
all f zero = true
all f (suc k) = all f k && f k

-- where the piece of entry i stands in the log: its length comes first
abbrev pub piece_at : List ℕ → (base i : ℕ) → ℕ
piece_at m base i = header_size + logged_size * number_at m base i

-- entry i has the number of a piece with a byte, and its end
abbrev pub entry_right : List ℕ → (base pieces i : ℕ) → Bool
entry_right m base pieces i =
    ltb (number_at m base i) pieces && (not (eqb (le64 m (piece_at m base i)) 0) && eqb (le64 m (base + 16 * i + 8)) (le64 m (piece_at m base i + 40)))

-- entry i as a location, and where its piece ends
abbrev pub entry_at : List ℕ → (base i : ℕ) → Location
entry_at m base i = location_by Logged m base i

abbrev pub entry_end : List ℕ → (base i : ℕ) → ℕ
entry_end m base i = (entry_at m base i).address + le64 m (piece_at m base i)

-- of a line: the bytes of the piece of entry i, and where it ends
abbrev pub length_of : Line → ℕ → ℕ
length_of v i = le64 v.bytes.now (piece_at v.bytes.now v.base i)

abbrev pub piece_end : Line → ℕ → ℕ
piece_end v i = (location_of v i).address + length_of v i

-- one of the n entries behind entry i lives together with its piece at an address inside it
abbrev pub lives_inside : (at : ℕ → Location) (end : ℕ → ℕ) (n i : ℕ) → Bool
lives_inside at end n i = lives_among at (n - (i + 1)) (i + 1) (at i) (end i)

-- ── what the code asks for ──

-- a log of so many pieces lies within the memory
abbrev pub LogWithin : List ℕ → ℕ → Type 0
LogWithin m pieces = (header_size + logged_size * pieces ≤ length m) × (pieces ≤ 1048576)
