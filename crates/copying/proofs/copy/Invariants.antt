-- `copying::copy` meets its contract: what is still to be written, written, is always the same.
use Prim.Native.Nat.{◌+◌, ◌-◌}
use mathlib.Core.Path.{◌≡◌}
use lib.ListN.{length, take, drop}
use lib.Seq.{sets}
use Rattle.copying.proofs.copy.Given as goal

abbrev pub invariant-loop-k : goal.invariant-loop-k
invariant-loop-k l =
    (length l.to ≡ length l.initial.to) × (sets l.to (l.b + l.k) (take (l.n - l.k) (drop (l.a + l.k) l.from)) ≡ sets l.initial.to l.b (take l.n (drop l.a l.from)))
