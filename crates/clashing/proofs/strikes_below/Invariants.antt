-- `clashing::strikes_below` meets its contract: what is asked from the first on is asked from g on. Assumes nothing.
use Prim.Native.Nat.{◌-◌, ◌≤◌}
use mathlib.Core.Path.{◌≡◌}
use Rattle.location.specs.Plain.{plain}
use Rattle.clashing.specs.Strikes.{strikes}
use Rattle.clashing.proofs.strikes_below.Given as goal

abbrev pub invariant-loop-g : goal.invariant-loop-g
invariant-loop-g l = (l.from ≤ l.g) × (l.g ≤ l.upto) × (strikes l.v.entries.line (l.upto - l.g) l.g (plain l.x) ≡ strikes l.v.entries.line (l.upto - l.from) l.from (plain l.x))

abbrev pub decreases-loop-g : goal.decreases-loop-g
decreases-loop-g l = l.upto - l.g
