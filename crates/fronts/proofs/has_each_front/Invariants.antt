-- `fronts::has_each_front` meets its contract: the fronts ahead decide. Assumes nothing.
use Prim.Native.Nat.{ℕ}
use mathlib.Core.Bool.{Bool}
use Rattle.fronts.specs.Marks.{Tests}
use Rattle.fronts.proofs.WithinLaws.{Passing}
use Rattle.fronts.proofs.has_each_front.Given as goal

abbrev pub invariant-loop-front : goal.invariant-loop-front
invariant-loop-front g l = (p : ℕ → Bool) → Tests (goal.F-post g l.has) p → Passing l.s p l.fronts l.front-index
