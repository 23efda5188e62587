-- `test_replay::run` is safe and ends. Assumes nothing.
use Prim.Native.Nat.{◌-◌, ◌≤◌}
use lib.ListN.{length}
use Rattle.test_replay.proofs.run.Given as goal

abbrev pub invariant-loop-p : goal.invariant-loop-p
invariant-loop-p g l = 147209 ≤ length l.out.bytes.now

abbrev pub decreases-loop-p : goal.decreases-loop-p
decreases-loop-p g l = length l.input - l.p
