-- `copying::clear` meets its contract: what is still to be written, written, is always the same.
use Prim.Native.Nat.{◌-◌}
use mathlib.Core.Path.{◌≡◌}
use lib.ListN.{length, replicate}
use lib.Seq.{sets}
use Rattle.copying.proofs.clear.Given as goal

abbrev pub invariant-loop-k : goal.invariant-loop-k
invariant-loop-k l =
    (length l.s ≡ length l.initial.s) × (sets l.s l.k (replicate (l.e - l.k) 0) ≡ sets l.initial.s l.a (replicate (l.e - l.a) 0))
