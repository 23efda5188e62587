-- `fronts::root_fronts` meets its contract: the fronts put, and then the siblings ahead, are all siblings. Assumes nothing.
use Rattle.fronts.proofs.RootFronts.{Putting}
use Rattle.fronts.proofs.root_fronts.Given as goal

abbrev pub invariant-loop-j : goal.invariant-loop-j
invariant-loop-j l = Putting l.s l.table.at l.table.count l.j l.fronts l.count
