-- `answering::answer_lines` meets its contract: from each line on, answering ends as it does from the first. Assumes nothing.
use Prim.Native.Nat.{◌-◌}
use lib.ListN.{length}
use Rattle.answering.specs.Parts.{at_start}
use Rattle.answering.proofs.Feeding.{Going}
use Rattle.answering.proofs.answer_lines.Given as goal

abbrev pub invariant-loop-next : goal.invariant-loop-next
invariant-loop-next l = Going (at_start l.initial.mem l.initial.line) l.input l.p l.fn.out l.mem l.line l.out l.next

abbrev pub decreases-loop-next : goal.decreases-loop-next
decreases-loop-next l = length l.input - l.next
