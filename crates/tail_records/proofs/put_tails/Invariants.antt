-- `tail_records::put_tails` meets its contract: what is still to be written of the piece, written, is always the same.
-- Assumes nothing.
use Rattle.location.specs.Plain.{plain}
use Rattle.index_memory.specs.Log.{piece_in}
use Rattle.tail_records.proofs.Entering.{Putting}
use Rattle.tail_records.proofs.put_tails.Given as goal

abbrev pub invariant-loop-i : goal.invariant-loop-i
invariant-loop-i l = Putting l.initial.mem (piece_in l.initial.mem l.piece) l.work l.count l.m (plain l.l) l.bytes l.mem l.t l.i
