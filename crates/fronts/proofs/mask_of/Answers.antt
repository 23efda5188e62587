-- `fronts::mask_of` meets its contract: the entries ahead decide. Assumes nothing.
use mathlib.Core.Path.{◌∙◌}
use Rattle.fronts.proofs.MaskLaws.{adds_byte, no_mask, masking_start, masking_skip, masking_add, masking_done}
use Rattle.fronts.proofs.mask_of.Goals as goal
use Rattle.fronts.proofs.mask_of.Goals.{in-Some, in_default}

pub returns-then-table-eq-DENSE_ENTRIES : goal.returns-then-table-eq-DENSE_ENTRIES
returns-then-table-eq-DENSE_ENTRIES c = no_mask _ _ _

pub loop-j-init : goal.loop-j-init
loop-j-init c = masking_start _ _ _

pub loop-j-preserved : goal.loop-j-preserved
loop-j-preserved c =
    let a = c.args in
    let o = c.loop-j in
    let l = c.loop-j-test.true in
    elim c.match-slot_in.branch [
      | in-Some w ↦ masking_add a.s.now a.table.at a.table.count o.j o.mask o.invariant l _ w.in-Some.ensures _ (adds_byte _ _ _ (w.mask-is ∙ w.with_byte-mask.ensures))
      | in_default w ↦ rw w.mask-is (masking_skip a.s.now a.table.at a.table.count o.j o.mask o.invariant l w.in_default.ensures)
    ]

pub returns : goal.returns
returns c = let a = c.args in let o = c.loop-j in masking_done a.s.now a.table.at a.table.count o.j o.mask o.invariant c.loop-j-test.false
