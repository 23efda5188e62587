-- `single_runs::run_by` meets its contract. Assumes nothing.
use Rattle.single_runs.proofs.run_by.Goals as goal

pub step-requires : goal.step-requires
step-requires g c = c.requires _ _ c.loop-levels-test.true c.loop-levels.invariant
