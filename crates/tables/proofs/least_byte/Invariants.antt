-- `tables::least_byte` meets its contract. Assumes nothing.
use Rattle.image_format.specs.Entries.{Least}
use Rattle.tables.proofs.least_byte.Given as goal

abbrev pub invariant-loop-j : goal.invariant-loop-j
invariant-loop-j l = Least l.s l.base l.j l.low l.least
