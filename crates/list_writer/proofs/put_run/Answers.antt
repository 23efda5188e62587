-- `list_writer::put_run` meets its contract: the locations of the tails passed are copied. Assumes nothing.
use native.Mathlib.Omega.{arith}
use Rattle.list_writer.proofs.Copying.{copy_start, copy_asks, copy_turn, copy_done}
use Rattle.list_writer.proofs.put_run.Goals as goal

pub loop-i-init : goal.loop-i-init
loop-i-init c = copy_start _ _ _ _ _ _ c.requires.0 c.requires.1 (λ j. omega (arith, c.type_inv.mem j))

pub put_taken-n-requires : goal.put_taken-n-requires
put_taken-n-requires c =
    let p = c.requires in
    let w = c.loop-i.invariant in
    let q = copy_asks _ _ _ _ _ _ p.0 p.1 p.2 w c.loop-i-test.true in
    (omega (arith, q, w.copied.long), omega (arith, w.copied.long))

pub loop-i-preserved : goal.loop-i-preserved
loop-i-preserved c = copy_turn _ _ _ _ _ _ c.requires.0 c.requires.1 c.requires.2 c.loop-i.invariant c.loop-i-test.true _ _ (λ j. omega (arith, c.type_inv.mem j)) c.put_taken-n.ensures.count c.put_taken-n.ensures.bytes

pub returns : goal.returns
returns c = copy_done _ _ _ _ _ _ c.requires.0 c.requires.1 c.loop-i.invariant c.loop-i-test.false
