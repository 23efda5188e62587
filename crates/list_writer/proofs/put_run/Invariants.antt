-- `list_writer::put_run` meets its contract: the locations of the tails passed are copied. Assumes nothing.
use Rattle.list_writer.proofs.Copying.{OnCopy}
use Rattle.list_writer.proofs.put_run.Given as goal

abbrev pub invariant-loop-i : goal.invariant-loop-i
invariant-loop-i l = OnCopy l.listed l.initial.mem l.mem l.s.work l.s.lo l.s.hi l.at l.n l.i
