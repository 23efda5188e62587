-- `test_replay::put_image` meets its contract: the digits of the bytes before an index are written. Assumes nothing.
use native.Mathlib.Omega.{arith}
use Rattle.replies.proofs.Writing.{writes_both, writes_same, writes_long}
use Rattle.test_replay.proofs.Replaying.{length_front, front_more, front_all}
use Rattle.test_replay.proofs.put_image.Goals as goal

pub put_byte-requires : goal.put_byte-requires
put_byte-requires c =
    let i = c.loop-b.invariant in
    omega (arith, i.written.next, writes_long i, length_front c.args.image.now c.loop-b.b-index (omega arith))

pub loop-b-preserved : goal.loop-b-preserved
loop-b-preserved c = writes_same (front_more c.args.image.now c.loop-b.b-index (omega arith)) (writes_both c.loop-b.invariant c.put_byte.ensures)

pub put_text-requires-2 : goal.put_text-requires-2
put_text-requires-2 c =
    let i = c.loop-b.invariant in
    omega (arith, i.written.next, writes_long i, length_front c.args.image.now c.loop-b.b-index (omega arith))

pub returns : goal.returns
returns c = writes_same (front_all c.args.image.now c.loop-b.b-index (omega arith)) (writes_both c.loop-b.invariant c.put_text-2.ensures)
