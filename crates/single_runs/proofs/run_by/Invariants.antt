-- `single_runs::run_by` meets its contract. Assumes nothing.
use Rattle.std.specs.Prelude.{Some}
use Rattle.single_runs.specs.Runs.{StepsTo}
use Rattle.single_runs.proofs.run_by.Given as goal

abbrev pub invariant-loop-levels : goal.invariant-loop-levels
invariant-loop-levels g l = StepsTo (λ a b. goal.F-post g l.step a (Some b)) l.fn.from l.levels l.end
