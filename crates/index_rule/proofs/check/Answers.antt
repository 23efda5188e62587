-- `index_rule::check` meets its contract: the layout, then the rule, and last conflicts. Assumes nothing.
use mathlib.Core.Path.{ap, ◌∙◌}
use Rattle.fields.specs.Answers.{layout_of}
use Rattle.fields.proofs.Passed.{passed}
use Rattle.index_rule.proofs.Whole.{check_clear, check_conflict, check_fails, check_refused}
use Rattle.index_rule.proofs.check.Goals as goal

pub returns-in_err-counts : goal.returns-in_err-counts
returns-in_err-counts c = ap layout_of (passed _ _ c.from_residual.ensures.1) ∙ check_refused c.args.s.now _ c.in_err-counts.ensures

pub returns-then-not-index_rule : goal.returns-then-not-index_rule
returns-then-not-index_rule c = check_fails c.args.s.now _ _ c.in_ok-counts.ensures _ c.index_rule.ensures c.if-not-index_rule.true

pub returns-then-not-conflict_free : goal.returns-then-not-conflict_free
returns-then-not-conflict_free c = check_conflict c.args.s.now _ _ c.in_ok-counts.ensures _ c.index_rule.ensures c.if-not-index_rule.false _ c.conflict_free.ensures c.if-not-conflict_free.true

pub returns : goal.returns
returns c = check_clear c.args.s.now _ _ c.in_ok-counts.ensures _ c.index_rule.ensures c.if-not-index_rule.false _ c.conflict_free.ensures c.if-not-conflict_free.false
