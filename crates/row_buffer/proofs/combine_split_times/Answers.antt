-- `row_buffer::combine_split_times` meets its contract: the rows of the places left, written behind those so far, make all of them written. Assumes nothing.
use Rattle.row_buffer.proofs.Loops.{writing_turn, counted, written}
use Rattle.row_buffer.proofs.combine_split_times.Goals as goal

pub loop-left-preserved : goal.loop-left-preserved
loop-left-preserved c = writing_turn c.loop-left.invariant _ c.loop-left-test.true c.row_end-k.ensures _ c.put_row.ensures

pub returns : goal.returns
returns c = record { count = counted c.loop-left.invariant c.loop-left-test.false; bytes = written c.loop-left.invariant c.loop-left-test.false }
