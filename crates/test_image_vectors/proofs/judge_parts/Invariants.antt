-- `judge_parts`: what is said of the parts of n bytes and more, after what is said so far. Assumes nothing.
use Prim.Native.Nat.{◌-◌}
use mathlib.Core.Path.{◌≡◌}
use lib.ListN.{length}
use Rattle.test_image_vectors.specs.Said.{said_in, said_parts}
use Rattle.test_image_vectors.proofs.judge_parts.Given as goal

abbrev pub invariant-loop-n : goal.invariant-loop-n
invariant-loop-n g l = said_parts l.img (length l.img - l.n) l.n (said_in l.page.last) ≡ said_parts l.img (length l.img) 0 (said_in l.initial.page.last)
