-- `PlaceSet::take_each` meets its contract: the locations so far are added, or one of them has no room. Assumes nothing.
use native.Mathlib.Omega.{arith}
use Rattle.place_buffer.proofs.Adding.{take_start, take_next, take_refused, take_done}
use Rattle.place_buffer.proofs.PlaceSet.take_each.Goals as goal

pub loop-i-init : goal.loop-i-init
loop-i-init c = take_start _ _ c.if-self.false

pub loop-i-preserved : goal.loop-i-preserved
loop-i-preserved c = take_next _ _ _ c.loop-i.invariant c.location_at.ensures c.in_ok-place.ensures

pub returns-in_err-place : goal.returns-in_err-place
returns-in_err-place c =
    rw c.from_residual.ensures (take_refused _ _ _ _ (omega arith) (take_next _ _ _ c.loop-i.invariant c.location_at.ensures c.in_err-place.ensures))

pub returns : goal.returns
returns c = take_done _ _ _ _ (omega arith) c.loop-i-test.false c.loop-i.invariant
