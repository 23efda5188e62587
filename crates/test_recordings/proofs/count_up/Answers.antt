-- `test_recordings::count_up` meets its contract: the first i bytes count up. Assumes nothing.
use Prim.Native.Nat.{ℕ, ◌+◌, ◌%◌, ◌<◌}
use native.Mathlib.Numerals.{add-one}
use native.Mathlib.Omega.{arith}
use mathlib.Core.Path.{◌≡◌, refl, ap, ◌∙◌}
use mathlib.Core.List.{List, [], ◌∷◌, ◌++◌}
use lib.ListN.{length, take, set}
use lib.Seq.{take-suc-set}
use Rattle.test_recordings.specs.Counting.{counting_up}
use Rattle.test_recordings.proofs.count_up.Goals as goal

-- one byte more
more : (s : List ℕ) (i : ℕ) → i < length s → take i s ≡ counting_up i → take (i + 1) (set s i (i % 251)) ≡ counting_up (i + 1)
unfolding counting_up
more s i h e = rw add-one (take-suc-set s i (i % 251) h ∙ ap (λ (x : List ℕ). x ++ (i % 251 ∷ [])) e)

pub loop-i-init : goal.loop-i-init
unfolding counting_up
loop-i-init c = refl

pub loop-i-preserved : goal.loop-i-preserved
loop-i-preserved c = more c.loop-i.data c.loop-i.i (omega arith) c.loop-i.invariant
