-- `certificate::Certified::created_from` meets its contract: those before r are created before the tick. Assumes nothing.
use Prim.Native.Nat.{ℕ, ◌≤◌, ◌<◌}
use Rattle.lined_locations.specs.Line.{location_of}
use Rattle.certificate.proofs.certified.Certified.created_from.Given as goal

abbrev pub invariant-loop-r : goal.invariant-loop-r
invariant-loop-r l = (k : ℕ) → l.q ≤ k → k < l.r → (location_of l.self.entries.line k).created < l.tick
