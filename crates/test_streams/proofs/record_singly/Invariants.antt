-- `test_streams::record_singly` is safe and ends: each block that is taken moves the cursor on. Assumes nothing.
use Prim.Native.Nat.{◌-◌, ◌≤◌}
use lib.ListN.{length}
use Rattle.test_streams.proofs.record_singly.Given as goal

abbrev pub invariant-loop-next : goal.invariant-loop-next
invariant-loop-next l = (l.taken ≤ l.at) × (l.at ≤ length l.stream)

abbrev pub decreases-loop-next : goal.decreases-loop-next
decreases-loop-next l = length l.stream - l.at
