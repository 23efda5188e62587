-- `forest_rule::run_below` meets its contract. Assumes nothing.
use Rattle.forest_rule.proofs.RunBelow.{below_none, below_singles}
use Rattle.forest_rule.proofs.run_below.Goals as goal

pub returns-then-below-ne1-clause-says : goal.returns-then-below-ne1-clause-says
returns-then-below-ne1-clause-says c = rw c.none.ensures (below_none _ _ _ _)

pub returns-clause-says : goal.returns-clause-says
returns-clause-says c = below_singles _ _ _ _ _ _ c.if-count-ne0.false c.if-below-ne1.false c.single_run.ensures
