-- `halving::partition_point` meets its contract: the point is within what is left. Assumes nothing.
use Rattle.std.proofs.Common.{ℕ, Bool, ◌≤◌, ◌-◌}
use Rattle.halving.specs.Halving.{Tests, Parts}
use Rattle.halving.proofs.Halves.{Left}
use Rattle.halving.proofs.partition_point.Given as goal

abbrev pub invariant-loop-lo : goal.invariant-loop-lo
invariant-loop-lo g l =
    (l.from ≤ l.lo) × (l.lo ≤ l.hi) × (l.hi ≤ l.upto) × ((p : ℕ → Bool) → Tests (goal.F-post g) l.before l.from l.upto p → Parts l.from l.upto p → Left l.from l.upto p l.lo l.hi)

abbrev pub decreases-loop-lo : goal.decreases-loop-lo
decreases-loop-lo g l = l.hi - l.lo
