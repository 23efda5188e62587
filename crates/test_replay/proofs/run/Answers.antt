-- `test_replay::run` is safe and ends. Assumes nothing.
use native.Mathlib.Omega.{arith}
use Rattle.replies.proofs.Writing.{writes_long}
use Rattle.test_replay.proofs.run.Goals as goal

pub loop-p-preserved : goal.loop-p-preserved
loop-p-preserved g c = omega (arith, writes_long c.replay_next.ensures.replays_next.answer, c.loop-p.invariant)
