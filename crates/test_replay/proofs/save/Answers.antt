-- `test_replay::save` meets its contract. Assumes nothing.
use Prim.Native.Nat.{ℕ}
use native.Mathlib.Omega.{arith}
use lib.ListN.{take, length-take, replicate, length-replicate}
use Rattle.saving.specs.Saving.{save_memory}
use Rattle.replies.proofs.Writing.{writes_same}
use Rattle.test_replay.specs.Replay.{save_answer}
use Rattle.test_replay.proofs.Replaying.{saved_line, refused_line, length_image}
use Rattle.test_replay.proofs.save.Goals as goal

pub returns-in-Ok-clause-written : goal.returns-in-Ok-clause-written
unfolding save_answer
returns-in-Ok-clause-written c =
    let k = c.in-Ok.ensures in
    let s = save_memory c.args.mem.now (replicate 73600 0) in
    writes_same (saved_line s _ _ c.save.new.out k.answer k.size k.buffer (omega (arith, length-replicate {A = ℕ} 73600 0)) c.min.ensures) c.put_image.ensures

pub returns-in-Ok-clause-upper_bound : goal.returns-in-Ok-clause-upper_bound
returns-in-Ok-clause-upper_bound c =
    let k = c.min.result in
    let i = take k c.save.new.out in
    omega (arith, c.put_image.ensures.written.next, length_image i, length-take k c.save.new.out, c.min.ensures)

pub returns-in-Err-clause-written : goal.returns-in-Err-clause-written
unfolding save_answer
returns-in-Err-clause-written c = writes_same (refused_line (save_memory c.args.mem.now (replicate 73600 0)) c.in-Err.refusal c.in-Err.ensures.answer) c.put_refused.ensures
