-- `location_lists::all_ended` meets its contract: what is left is at its ends just where all lists are. Assumes nothing.
use mathlib.Core.Path.{◌∙◌}
use Rattle.location_lists.proofs.Walk.{ended_end, ended_not, ended_on}
use Rattle.location_lists.proofs.all_ended.Goals as goal

pub returns-then-list : goal.returns-then-list
returns-then-list c = ended_not _ _ _ c.loop-list-test.true c.if-list.true ∙ c.loop-list.invariant

pub loop-list-preserved : goal.loop-list-preserved
loop-list-preserved c = ended_on _ _ _ c.loop-list-test.true c.if-list.false ∙ c.loop-list.invariant

pub returns : goal.returns
returns c = ended_end _ _ _ c.loop-list-test.false ∙ c.loop-list.invariant
