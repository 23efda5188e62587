-- `run` stays within the bytes: the cursor and the image judged last lie in them. Assumes nothing.
use Prim.Native.Nat.{◌+◌, ◌-◌, ◌≤◌}
use mathlib.Core.Path.{◌≡◌}
use lib.ListN.{length}
use Rattle.test_image_vectors.proofs.run.Given as goal

abbrev pub invariant-loop-c : goal.invariant-loop-c
invariant-loop-c g l = (length l.bytes ≡ length l.initial.bytes) × (l.c.at ≤ length l.bytes) × (l.c.start + l.c.len ≤ length l.bytes)

abbrev pub decreases-loop-c : goal.decreases-loop-c
decreases-loop-c g l = length l.bytes - l.c.at
