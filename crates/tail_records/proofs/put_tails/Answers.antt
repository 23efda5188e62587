-- `tail_records::put_tails` meets its contract: what is still to be written of the piece, written, is always the same.
-- Assumes nothing.
use native.Mathlib.Omega.{arith}
use Rattle.tail_records.proofs.Write.{piece_read}
use Rattle.tail_records.proofs.Entering.{putting_start, putting_turn, putting_count, putting_done}
use Rattle.tail_records.proofs.put_tails.Goals as goal

pub loop-i-init : goal.loop-i-init
loop-i-init c =
    let p = c.requires in
    putting_start (piece_read _ _ _ _ _ p.0 (omega arith) c.get64-m.ensures c.location_at-l.ensures c.copy_from_slice.ensures.after) p.2

pub loop-i-preserved : goal.loop-i-preserved
loop-i-preserved c = putting_turn c.loop-i.invariant _ _ c.loop-i-test.true c.moved.ensures c.put_tail.ensures

pub returns : goal.returns
returns c =
    let w = c.loop-i.invariant in
    record { count = putting_count w c.loop-i-test.false; bytes = putting_done w _ c.loop-i-test.false c.put_tail-2.ensures }
