-- `halving::partition_point` meets its contract: what a test answers says in which part the point is. Assumes nothing.
use Rattle.std.proofs.Common.{◌∙◌, sym, arith}
use Rattle.halving.proofs.Halves.{upper, lower}
use Rattle.halving.proofs.partition_point.Goals as goal

pub loop-lo-preserved-then-before : goal.loop-lo-preserved-then-before
loop-lo-preserved-then-before g c =
    let l = c.loop-lo in
    let a = c.args in (
      omega arith,
      omega arith,
      omega arith,
      λ p tests parts.
          let is = sym (tests _ (omega arith) (omega arith) _ c.before-in-loop-lo.ensures) ∙ c.if-before.true in
          upper a.from a.upto p parts l.lo l.hi _ (omega arith) is (l.invariant.3 p tests parts),
    )

pub loop-lo-preserved : goal.loop-lo-preserved
loop-lo-preserved g c =
    let l = c.loop-lo in
    let a = c.args in (
      omega arith,
      omega arith,
      omega arith,
      λ p tests parts.
          let is = sym (tests _ (omega arith) (omega arith) _ c.before-in-loop-lo.ensures) ∙ c.if-before.false in
          lower a.from a.upto p parts l.lo l.hi _ (omega arith) is (l.invariant.3 p tests parts),
    )

pub returns-clause-point : goal.returns-clause-point
returns-clause-point g c =
    λ p tests parts.
    let l = c.loop-lo in
    let h = l.invariant.3 p tests parts in
    record { holds = h.holds; ends = λ i le lt. h.ends i (omega arith) lt }
