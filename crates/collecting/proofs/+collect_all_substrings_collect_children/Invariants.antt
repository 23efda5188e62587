-- `collecting::collect_all_substrings` and `collecting::collect_children`, which call each other, meet their contracts: the levels left fall.
-- Assumes nothing.
use Prim.Native.Nat.{◌+◌, ◌*◌}
use Rattle.collecting.proofs.Passing.{Passing}
use Rattle.collecting.proofs.+collect_all_substrings_collect_children.Given as goal

abbrev pub decreases-collect_all_substrings : goal.decreases-collect_all_substrings
decreases-collect_all_substrings l = 2 * l.left

abbrev pub decreases-collect_children : goal.decreases-collect_children
decreases-collect_children l = 2 * l.left + 1

abbrev pub invariant-collect_children-loop-j : goal.invariant-collect_children-loop-j
invariant-collect_children-loop-j l = Passing l.img l.left l.table.at l.table.count l.j l.initial.places l.places
