-- `image_conflicts::children_due` and `image_conflicts::node_due`, which call each other, meet their contracts: the levels left fall.
-- Assumes nothing.
use Prim.Native.Nat.{◌+◌, ◌*◌}
use Rattle.image_conflicts.proofs.Nodes.{Passing}
use Rattle.image_conflicts.proofs.+due.Given as goal

abbrev pub decreases-children_due : goal.decreases-children_due
decreases-children_due l = 2 * l.left

abbrev pub decreases-node_due : goal.decreases-node_due
decreases-node_due l = 2 * l.left + 1

abbrev pub invariant-children_due-loop-j : goal.invariant-children_due-loop-j
invariant-children_due-loop-j l = Passing l.v.line l.n l.m l.left l.due l.j l.rest
