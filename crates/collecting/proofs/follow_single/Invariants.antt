-- `collecting::follow_single` meets its contract: what the nodes left behind hold is added, and the levels left fall. Assumes nothing.
use Rattle.collecting.specs.Collected.{Followed}
use Rattle.collecting.proofs.follow_single.Given as goal

abbrev pub invariant-loop-next : goal.invariant-loop-next
invariant-loop-next l = Followed l.img l.left l.at l.initial.places l.places l.node l.rest

abbrev pub decreases-loop-next : goal.decreases-loop-next
decreases-loop-next l = l.rest
