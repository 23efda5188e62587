-- `node_rule::child_lists` meets its contract: the lists gone over, and then those of the entries ahead, are those of all children. Assumes nothing.
use Rattle.location_lists.specs.Lists.{SameSpans}
use Rattle.node_rule.proofs.Children.{Listing}
use Rattle.node_rule.proofs.child_lists.Given as goal

abbrev pub invariant-loop-j : goal.invariant-loop-j
invariant-loop-j l = Listing l.s l.table.at l.table.count l.j l.lists × SameSpans l.initial.lists l.lists
