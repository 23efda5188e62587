-- `row_buffer::row_end` meets its contract: the places so far are of the row, and of those left as many as go on with it. Assumes nothing.
use native.Mathlib.Omega.{arith}
use mathlib.Core.Path.{sym, ◌∙◌}
use Rattle.row_buffer.proofs.Rows.{going_start, going_again, going_stop, going_done}
use Rattle.row_buffer.proofs.row_end.Goals as goal

pub loop-u-init : goal.loop-u-init
loop-u-init c = going_start _ _ _ _ c.requires.0 c.get64-end.ensures

pub loop-u-preserved : goal.loop-u-preserved
loop-u-preserved c = going_again c.loop-u.invariant c.loop-u-test.true _ c.get64-address.ensures _ (sym c.goes_on.ensures ∙ c.if-not-goes_on.false) c.get64-end-in-loop-u.ensures

pub returns-then-not-goes_on : goal.returns-then-not-goes_on
returns-then-not-goes_on c = going_stop c.loop-u.invariant c.loop-u-test.true _ c.get64-address.ensures (sym c.goes_on.ensures ∙ c.if-not-goes_on.true)

pub returns : goal.returns
returns c = omega (arith, going_done c.loop-u.invariant c.loop-u-test.false)
