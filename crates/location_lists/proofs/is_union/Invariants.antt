-- `location_lists::is_union` meets its contract: the walk over what is left of the list and of the lists says what the whole walk does. Assumes nothing.
use Rattle.location_lists.proofs.Walk.{Walking}
use Rattle.location_lists.proofs.is_union.Given as goal

abbrev pub invariant-loop-i : goal.invariant-loop-i
invariant-loop-i l = Walking l.s l.list l.back l.initial.lists l.lists l.i
