-- `forest_rule::run_with_front` meets its contract: no run, one that ends at leaves, or one with its last front on the stack. Assumes nothing.
use native.Mathlib.Omega.{arith}
use Rattle.single_runs.proofs.RunLaws.{run_tables}
use Rattle.forest_rule.proofs.RunBelow.{below_leaves, below_none, below_run, below_tables, below_wrong}
use Rattle.forest_rule.proofs.run_with_front.Goals as goal

pub returns-then-count-ne1-clause-says : goal.returns-then-count-ne1-clause-says
returns-then-count-ne1-clause-says c = rw c.none.ensures (below_none _ _ _ _)

pub common_run-run-requires : goal.common_run-run-requires
common_run-run-requires c = below_tables _ _ _ _ c.requires.0 c.requires.1 c.if-count-ne1.false c.if-front-ne1.false

pub leaf_right-requires : goal.leaf_right-requires
leaf_right-requires c =
    let p = c.requires in
    let t = run_tables _ _ _ _ _ c.common_run-run.ensures (below_tables _ _ _ _ p.0 p.1 c.if-count-ne1.false c.if-front-ne1.false) in
    (t.0, t.1, c.requires.2)

pub returns-in-Some-clause-says : goal.returns-in-Some-clause-says
returns-in-Some-clause-says c =
    let a = c.args in
    let r = c.common_run-run in
    below_leaves a.s.now a.below a.fronts.now a.count r.result.levels r.result.end r.ensures c.requires.1 c.if-count-ne1.false c.if-front-ne1.false _ c.in-Some.ensures.says

pub returns-then-run-eq0-clause-says : goal.returns-then-run-eq0-clause-says
returns-then-run-eq0-clause-says c = rw c.none.ensures (below_none _ _ _ _)

pub owes_none-requires : goal.owes_none-requires
owes_none-requires c =
    let p = c.requires in
    let t = run_tables _ _ _ _ _ c.common_run-run.ensures (below_tables _ _ _ _ p.0 p.1 c.if-count-ne1.false c.if-front-ne1.false) in
    (t.0, omega (arith, c.leaf_right.ensures.lent.same_length, c.requires.2))

pub returns-then-not-owes_none-clause-says : goal.returns-then-not-owes_none-clause-says
returns-then-not-owes_none-clause-says c =
    let a = c.args in
    let r = c.common_run-run in
    below_wrong a.s.now a.below a.fronts.now a.count r.result.levels r.result.end r.ensures c.requires.1 c.if-count-ne1.false c.if-front-ne1.false c.if-run-eq0.false _ c.owes_none.ensures.says c.if-not-owes_none.true

pub returns-clause-says : goal.returns-clause-says
returns-clause-says c =
    let a = c.args in
    let p = c.requires in
    let r = c.common_run-run in
    rw c.new.ensures
    (below_run a.s.now a.below a.fronts.now a.count r.result.levels r.result.end r.ensures p.1 c.if-count-ne1.false c.if-front-ne1.false c.if-run-eq0.false _ c.owes_none.ensures.says c.if-not-owes_none.false (omega (arith, p.0.levels, r.ensures.few)))
