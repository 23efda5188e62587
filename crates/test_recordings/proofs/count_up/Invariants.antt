-- `test_recordings::count_up` meets its contract: the first i bytes count up. Assumes nothing.
use mathlib.Core.Path.{◌≡◌}
use lib.ListN.{take}
use Rattle.test_recordings.specs.Counting.{counting_up}
use Rattle.test_recordings.proofs.count_up.Given as goal

abbrev pub invariant-loop-i : goal.invariant-loop-i
invariant-loop-i l = take l.i l.data ≡ counting_up l.i
