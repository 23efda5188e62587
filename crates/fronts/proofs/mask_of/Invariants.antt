-- `fronts::mask_of` meets its contract: the entries ahead decide. Assumes nothing.
use Rattle.fronts.proofs.MaskLaws.{Masking}
use Rattle.fronts.proofs.mask_of.Given as goal

abbrev pub invariant-loop-j : goal.invariant-loop-j
invariant-loop-j l = Masking l.s l.table.at l.table.count l.j l.mask
