-- `fronts::marks_of` meets its contract: a byte with a child is marked or ahead. Assumes nothing.
use mathlib.Core.Path.{◌≡◌}
use lib.ListN.{length}
use Rattle.fronts.proofs.MarkLaws.{Marking}
use Rattle.fronts.proofs.marks_of.Given as goal

abbrev pub invariant-loop-j : goal.invariant-loop-j
invariant-loop-j l = Marking l.s l.table.at l.table.count l.j l.has × (length l.has ≡ 256)
