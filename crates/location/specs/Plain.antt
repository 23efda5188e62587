-- The code's locations as those of the definitions, and the meaning of what the code answers. Assumes nothing.
use Rattle.std.specs.Prelude.{Option as Maybe, Some, None}
use Rattle.std.proofs.Math.Option.{Option, none, some}
use Rattle.definitions.specs.Location.{Location}
use Rattle.location.specs.declared.SpacetimeLocation.{SpacetimeLocation}

-- the numbers of a location
abbrev pub plain : SpacetimeLocation → Location
plain l = record { address = l.address.0; created = l.created_at.0; destroyed = l.destroyed_at.0 }

-- what two locations have in common, or none
abbrev pub common_of : Maybe SpacetimeLocation → Option Location
common_of (Some l) = some (plain l)
common_of None = none
