-- `places::answer_part` meets its contract: from each turn on, the part ends as it does from its first byte. Assumes nothing.
use Prim.Native.Nat.{◌-◌}
use mathlib.Core.Path.{◌≡◌}
use lib.ListN.{length}
use Rattle.answering.proofs.Turns.{Reached}
use Rattle.places.proofs.answer_part.Given as goal

abbrev pub invariant-loop-p : goal.invariant-loop-p
invariant-loop-p g l = Reached l.initial.mem l.initial.line l.input l.p l.mem l.line × (length l.out.bytes.now ≡ length l.initial.out.bytes.now)

abbrev pub decreases-loop-p : goal.decreases-loop-p
decreases-loop-p g l = length l.input - l.p
