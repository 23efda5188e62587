-- `fields::singles_below` meets its contract. Assumes nothing.
use Rattle.fields.specs.Singles.{SinglesBelow}
use Rattle.fields.proofs.singles_below.Given as goal

abbrev pub invariant-loop-k : goal.invariant-loop-k
invariant-loop-k l = SinglesBelow l.s l.at l.most l.k
