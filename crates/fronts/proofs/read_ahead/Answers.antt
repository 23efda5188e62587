-- `fronts::read_ahead` meets its contract: what is left to read is the same at each front. Assumes nothing.
use Prim.Native.Nat.{◌/◌}
use mathlib.Core.Path.{ap, ◌∙◌}
use lib.ListN.{length}
use Rattle.fronts.specs.Ahead.{fronts_read}
use Rattle.fronts.proofs.Fronts.{first_table}
use Rattle.fronts.proofs.AheadLaws.{fronts_some, fronts_none, fronts_end, shares_none, shares_some}
use Rattle.fronts.proofs.read_ahead.Goals as goal
use Rattle.fronts.proofs.read_ahead.Goals.{in-Some, in_default}

pub returns-then-count-eq0 : goal.returns-then-count-eq0
returns-then-count-eq0 c = let a = c.args in shares_none a.s.now a.byte a.fronts.now a.at c.if-count-eq0.true

pub loop-front-init : goal.loop-front-init
loop-front-init c =
    let a = c.args in
    let n = length a.fronts.now in
    ap (fronts_read a.s.now a.byte (length a.s.now / n / n) a.fronts.now) c.read_part-sum.ensures

pub child_in-requires : goal.child_in-requires
child_in-requires c = (first_table _ _ _ c.loop-front.front-index c.loop-front-test.true c.requires).is.within

pub loop-front-preserved : goal.loop-front-preserved
loop-front-preserved c =
    let a = c.args in
    let l = c.loop-front in
    let n = length a.fronts.now in
    let k = length a.s.now / n / n in
    elim c.match-child_in.branch [
      | in-Some w ↦ rw w.sum-is (fronts_some a.s.now a.byte k a.fronts.now l.front-index l.sum _ w.read_part-sum-in-Some.result c.loop-front-test.true w.in-Some.ensures w.read_part-sum-in-Some.ensures ∙ l.invariant)
      | in_default w ↦ rw w.sum-is (fronts_none a.s.now a.byte k a.fronts.now l.front-index l.sum c.loop-front-test.true w.in_default.ensures ∙ l.invariant)
    ]

pub returns : goal.returns
returns c =
    let a = c.args in
    let l = c.loop-front in
    let n = length a.fronts.now in
    fronts_end a.s.now a.byte (length a.s.now / n / n) a.fronts.now l.front-index l.sum c.loop-front-test.false ∙ l.invariant ∙ shares_some a.s.now a.byte a.fronts.now a.at c.if-count-eq0.false
