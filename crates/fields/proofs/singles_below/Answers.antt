-- `fields::singles_below` meets its contract. Assumes nothing.
use native.Mathlib.Omega.{arith}
use Rattle.fields.proofs.Singles.{run_more}
use Rattle.fields.proofs.singles_below.Goals as goal

pub loop-k-preserved : goal.loop-k-preserved
loop-k-preserved c = run_more _ _ _ _ c.loop-k.invariant (omega arith) (c.is_single_before_child.ensures c.if-not-is_single_before_child.false)
