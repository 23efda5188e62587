-- `test_replay::put_image` meets its contract: the digits of the bytes before an index are written. Assumes nothing.
use Rattle.replies.specs.Outputs.{Writes}
use Rattle.test_replay.proofs.Replaying.{image_front}
use Rattle.test_replay.proofs.put_image.Given as goal

abbrev pub invariant-loop-b : goal.invariant-loop-b
invariant-loop-b l = Writes l.fn.out (image_front l.image l.b-index) l.out
