-- `check_character::sum_of` meets its contract: the characters passed were summed. Assumes nothing.
use Rattle.check_character.proofs.Characters.{Summed}
use Rattle.check_character.proofs.sum_of.Given as goal

abbrev pub invariant-loop-i : goal.invariant-loop-i
invariant-loop-i l = Summed l.number l.i l.sum
