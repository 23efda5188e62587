-- `joining::join_from` meets its contract: those so far are joined, and behind one above the key none has it. Assumes nothing.
use Rattle.std.specs.Prelude.{Some}
use Rattle.location.specs.Plain.{plain}
use Rattle.joining.proofs.Joining.{JoinedTo}
use Rattle.joining.proofs.join_from.Given as goal

abbrev pub invariant-loop-i : goal.invariant-loop-i
invariant-loop-i l = JoinedTo l.img l.list.at l.key (plain l.x) l.initial.places l.places l.i (Some tt)
