-- `certificate::Certified::group_end` meets its contract: those from g to e - 1 are at one address. Assumes nothing.
use Prim.Native.Nat.{ℕ, ◌≤◌, ◌<◌}
use mathlib.Core.Path.{◌≡◌}
use Rattle.lined_locations.specs.Line.{location_of}
use Rattle.certificate.proofs.certified.Certified.group_end.Given as goal

abbrev pub invariant-loop-e : goal.invariant-loop-e
invariant-loop-e l = (k : ℕ) → l.g ≤ k → k < l.e → (location_of l.self.entries.line k).address ≡ (location_of l.self.entries.line l.g).address
