-- `location_lists::step_over` meets its contract: stepping over the key in what is left of the lists gives what it gives in all. Assumes nothing.
use Rattle.location.specs.Plain.{plain}
use Rattle.location_lists.proofs.Walk.{Stepping}
use Rattle.location_lists.proofs.step_over.Given as goal

abbrev pub invariant-loop-list : goal.invariant-loop-list
invariant-loop-list l = Stepping l.s (plain l.key) l.initial.lists l.lists l.met l.list-index
