-- `single_runs::common_run` meets its contract. Assumes nothing.
use native.Mathlib.Omega.{arith}
use borrow.Author.Rules.{rules}
use Rattle.single_runs.proofs.RunLaws.{run_steps, run_tables}
use Rattle.single_runs.proofs.common_run.Goals as goal

pub run_by-requires : goal.run_by-requires
run_by-requires c = λ k x l e.
    let a = c.args in
    let t = run_tables _ _ _ k x (run_steps a.s.now a.from a.most _ (λ y z d. search rules) k x (omega arith) e) c.requires in
    search rules

pub returns : goal.returns
returns c = let a = c.args in run_steps a.s.now a.from a.most _ (λ y z d. search rules) _ _ c.run_by.ensures.few c.run_by.ensures.steps
