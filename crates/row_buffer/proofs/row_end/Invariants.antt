-- `row_buffer::row_end` meets its contract: the places so far are of the row, and of those left as many as go on with it. Assumes nothing.
use Rattle.row_buffer.proofs.Rows.{Going}
use Rattle.row_buffer.proofs.row_end.Given as goal

abbrev pub invariant-loop-u : goal.invariant-loop-u
invariant-loop-u l = Going l.scratch l.n l.at l.end l.u
