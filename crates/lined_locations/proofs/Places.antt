-- Where location i stands, by the kind of line, and that it lies within the memory. Assumes nothing.
use Prim.Native.Nat.{ℕ, ◌+◌, ◌*◌, ◌≤◌, ◌<◌}
use native.Mathlib.Omega.{arith}
use mathlib.Core.Path.{◌≡◌}
use lib.ListN.{length}
use Rattle.lined_locations.specs.Places.{number_at}
use Rattle.lined_locations.specs.Line.{place_of}
use Rattle.lined_locations.specs.declared.Line.{Line}
use Rattle.lined_locations.specs.declared.LineKind.TheVariants.{Logged}

module _ (v : Line) (i : ℕ) where
  pub logged_place : v.kind ≡ Logged → place_of v i ≡ 64 + 48 * number_at v.bytes.now v.base i + 24
  logged_place e = rw e

  pub logged_within : i < v.count → v.kind ≡ Logged → 64 + 48 * number_at v.bytes.now v.base i + 48 ≤ length v.bytes.now
  logged_within h e = omega (arith, v.within.places i h, logged_place e)
