-- `ordering::enter_pieces` meets its contract: after each new piece the certificate in memory has room for those to come. Assumes nothing.
use Rattle.memory_header.specs.Answers.{header_of}
use Rattle.ordering.proofs.Moving.{Moving}
use Rattle.ordering.proofs.enter_pieces.Given as goal

abbrev pub invariant-loop-j : goal.invariant-loop-j
invariant-loop-j l = Moving l.initial.mem (header_of l.h) l.count l.new l.mem l.upto l.j
