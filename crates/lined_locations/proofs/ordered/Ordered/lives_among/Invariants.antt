-- `lined_locations::Ordered::lives_among` meets its contract: what is asked from the first on is asked from g on. Assumes nothing.
use Prim.Native.Nat.{◌-◌, ◌≤◌}
use mathlib.Core.Path.{◌≡◌}
use Rattle.location.specs.Plain.{plain}
use Rattle.conflicts.specs.Lined.{lives_among}
use Rattle.lined_locations.specs.Line.{location_of}
use Rattle.lined_locations.proofs.ordered.Ordered.lives_among.Given as goal

abbrev pub invariant-loop-g : goal.invariant-loop-g
invariant-loop-g l =
    let v = l.self.line in
    (l.g ≤ v.count) × (lives_among (location_of v) (v.count - l.g) l.g (plain l.x) l.end ≡ lives_among (location_of v) (v.count - l.from) l.from (plain l.x) l.end)

abbrev pub decreases-loop-g : goal.decreases-loop-g
decreases-loop-g l = l.self.line.count - l.g
