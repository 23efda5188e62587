-- `location_lists::is_ascending` meets its contract: what is left ascends just where all do. Assumes nothing.
use mathlib.Core.Path.{ap, ◌∙◌}
use Rattle.trie.specs.Test.{is_ascending}
use Rattle.location_lists.proofs.Single.{rest_all, ascends_end, ascends_not, ascends_on}
use Rattle.location_lists.proofs.is_ascending.Goals as goal

pub loop-i-init : goal.loop-i-init
loop-i-init c = let a = c.args in ap is_ascending (rest_all a.s.now a.list.at a.list.count)

pub returns-then-not-before : goal.returns-then-not-before
returns-then-not-before c =
    let a = c.args in
    ascends_not a.s.now a.list.at a.list.count _ c.loop-i.auto.i c.loop-i-test.true _ _ c.location_at-l.ensures c.location_at-m.ensures _ c.before-in-loop-i.ensures c.if-not-before.true ∙ c.loop-i.invariant

pub loop-i-preserved : goal.loop-i-preserved
loop-i-preserved c =
    let a = c.args in
    ascends_on a.s.now a.list.at a.list.count _ c.loop-i.auto.i c.loop-i-test.true _ _ c.location_at-l.ensures c.location_at-m.ensures _ c.before-in-loop-i.ensures c.if-not-before.false ∙ c.loop-i.invariant

pub returns : goal.returns
returns c = let a = c.args in ascends_end a.s.now a.list.at a.list.count _ c.loop-i-test.false ∙ c.loop-i.invariant
