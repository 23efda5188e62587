-- `fronts::fronts_by` meets its contract: the fronts found, and then those of the fronts ahead, are all. Assumes nothing.
use Rattle.location_lists.specs.Lists.{SameSpans}
use Rattle.fronts.proofs.NextFronts.{Finding}
use Rattle.fronts.proofs.fronts_by.Given as goal

abbrev pub invariant-loop-i : goal.invariant-loop-i
invariant-loop-i l = Finding l.s l.byte l.from l.to l.initial.fronts l.count l.i l.fronts l.met l.lists × SameSpans l.initial.lists l.lists
