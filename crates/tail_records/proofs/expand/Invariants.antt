-- `tail_records::expand` meets its contract: what is still to be written of the log, written, is always the same.
-- Assumes nothing.
use Rattle.tail_records.proofs.Entering.{Expanding}
use Rattle.tail_records.proofs.expand.Given as goal

abbrev pub invariant-loop-j : goal.invariant-loop-j
invariant-loop-j l = Expanding l.initial.mem l.pieces l.work l.mem l.t l.j
