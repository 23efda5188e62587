-- `single_runs::single_run` meets its contract. Assumes nothing.
use native.Mathlib.Omega.{arith}
use borrow.Author.Rules.{rules}
use Rattle.single_runs.proofs.SingleLaws.{singles_none, singles_steps, singles_table}
use Rattle.single_runs.proofs.single_run.Goals as goal

pub returns-then-not-has_single_with_suffix : goal.returns-then-not-has_single_with_suffix
returns-then-not-has_single_with_suffix c = rw c.none.ensures (singles_none _ _ _)

pub run_by-requires : goal.run_by-requires
run_by-requires c = λ k x l e.
    let a = c.args in
    let r = singles_steps a.s.now a.table a.most _ (λ y z d. search rules) (c.has_single_with_suffix.ensures c.if-not-has_single_with_suffix.false) k x (omega arith) e in
    let t = singles_table _ _ _ k x r.0 c.requires in
    search rules

pub returns : goal.returns
returns c =
    let a = c.args in
    (singles_steps a.s.now a.table a.most _ (λ y z d. search rules) (c.has_single_with_suffix.ensures c.if-not-has_single_with_suffix.false) _ _ c.run_by.ensures.few c.run_by.ensures.steps).0
