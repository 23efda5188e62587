-- `forest_rule::owes_none` meets its contract. Assumes nothing.
use Rattle.single_runs.proofs.RunLaws.{none_say}
use Rattle.forest_rule.proofs.owes_none.Goals as goal

pub returns-clause-says : goal.returns-clause-says
returns-clause-says c = none_say _ _ _ _ c.child_lists.ensures.says c.is_union.ensures.says
