-- `fronts::has_each_front` meets its contract: the fronts ahead decide. Assumes nothing.
use lib.ListN.{length}
use Rattle.fronts.proofs.Fronts.{first_table}
use Rattle.fronts.proofs.WithinLaws.{passing_start, passing_lost, passing_on, passing_done}
use Rattle.fronts.proofs.has_each_front.Goals as goal

pub loop-front-init : goal.loop-front-init
loop-front-init g c p k = let a = c.args in passing_start a.s.now p a.fronts.now

pub has_each-requires-clause-table : goal.has_each-requires-clause-table
has_each-requires-clause-table g c = let a = c.args in first_table a.s.now a.fronts.now (length a.fronts.now) c.loop-front.front-index c.loop-front-test.true c.requires.fronts

pub returns-then-not-has_each : goal.returns-then-not-has_each
returns-then-not-has_each g c p k =
    let a = c.args in
    let o = c.loop-front in
    passing_lost a.s.now p a.fronts.now o.front-index (o.invariant p k) c.loop-front-test.true _ (c.has_each.ensures p k) c.if-not-has_each.true

pub loop-front-preserved : goal.loop-front-preserved
loop-front-preserved g c p k =
    let a = c.args in
    let o = c.loop-front in
    passing_on a.s.now p a.fronts.now o.front-index (o.invariant p k) c.loop-front-test.true _ (c.has_each.ensures p k) c.if-not-has_each.false

pub returns : goal.returns
returns g c p k = let a = c.args in let o = c.loop-front in passing_done a.s.now p a.fronts.now o.front-index (o.invariant p k) c.loop-front-test.false
