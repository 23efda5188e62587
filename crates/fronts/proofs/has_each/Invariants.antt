-- `fronts::has_each` meets its contract: the entries ahead decide. Assumes nothing.
use Prim.Native.Nat.{ℕ}
use mathlib.Core.Bool.{Bool}
use Rattle.fronts.specs.Marks.{Tests}
use Rattle.fronts.proofs.WithinLaws.{Checking}
use Rattle.fronts.proofs.has_each.Given as goal

abbrev pub invariant-loop-j : goal.invariant-loop-j
invariant-loop-j g l = (p : ℕ → Bool) → Tests (goal.F-post g l.has) p → Checking l.s p l.table.at l.table.count l.j
