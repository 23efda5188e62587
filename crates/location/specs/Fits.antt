-- What the 24 bytes of a location can hold: numbers of 64 bits. Assumes nothing.
use Rattle.std.specs.Prelude.{◌^◌, ◌<◌}
use Rattle.definitions.specs.Location.{Location}

-- each number is one of 64 bits
pub record Fits (l : Location) : Type 0 where
  pub address : l.address < 2 ^ 64
  pub created : l.created < 2 ^ 64
  pub destroyed : l.destroyed < 2 ^ 64
