-- `certificate::Certified::group_apart` meets its contract: none of the entries before g is met. Assumes nothing.
use Prim.Native.Nat.{◌-◌, ◌≤◌}
use Rattle.lined_locations.specs.Line.{location_of}
use Rattle.certificate.specs.Entries.{piece_end}
use Rattle.certificate.specs.Groups.{Meeting}
use Rattle.certificate.proofs.certified.Certified.group_apart.Given as goal

abbrev pub invariant-loop-g : goal.invariant-loop-g
invariant-loop-g l = (l.e ≤ l.g) × (l.g ≤ l.self.entries.line.count) × (Meeting (location_of l.self.entries.line) (piece_end l.self.entries.line) l.i l.e l.e l.g → ⊥)

abbrev pub decreases-loop-g : goal.decreases-loop-g
decreases-loop-g l = l.self.entries.line.count - l.g
