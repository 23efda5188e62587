-- `row_buffer::combine_split_times` meets its contract: the rows of the places left, written behind those so far, make all of them written. Assumes nothing.
use Rattle.row_buffer.proofs.Loops.{Writing}
use Rattle.row_buffer.proofs.combine_split_times.Given as goal

abbrev pub invariant-loop-left : goal.invariant-loop-left
invariant-loop-left l = Writing l.initial.scratch l.scratch l.n l.at l.p l.left l.count

abbrev pub decreases-loop-left : goal.decreases-loop-left
decreases-loop-left l = l.left
