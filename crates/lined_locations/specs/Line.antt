-- The locations of a line. Assumes nothing.
use Rattle.std.specs.Prelude.{ℕ}
use Rattle.definitions.specs.Location.{Location}
use Rattle.lined_locations.specs.declared.Line.{Line}
use Rattle.lined_locations.specs.Places.{place_by, location_by}

abbrev pub place_of : Line → ℕ → ℕ
place_of v i = place_by v.kind v.bytes.now v.base i

abbrev pub location_of : Line → ℕ → Location
location_of v i = location_by v.kind v.bytes.now v.base i
