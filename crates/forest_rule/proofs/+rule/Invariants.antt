-- `forest_rule::child_right`, `forest_rule::each_right` and `forest_rule::children_right`, which call each other, meet their contracts: the levels left fall. Assumes nothing.
use Prim.Native.Nat.{◌+◌, ◌*◌}
use Rattle.location_lists.specs.Lists.{SameSpans}
use Rattle.forest_rule.proofs.Forest.{Turning}
use Rattle.forest_rule.proofs.+rule.Given as goal

abbrev pub decreases-child_right : goal.decreases-child_right
decreases-child_right l = 3 * l.left + 2

abbrev pub decreases-children_right : goal.decreases-children_right
decreases-children_right l = 3 * l.below.left + 1

abbrev pub decreases-each_right : goal.decreases-each_right
decreases-each_right l = 3 * l.here.left

abbrev pub invariant-each_right-loop-j : goal.invariant-each_right-loop-j
invariant-each_right-loop-j l = Turning l.s l.here l.initial.fronts l.count l.j l.fronts × SameSpans l.initial.lists l.lists
