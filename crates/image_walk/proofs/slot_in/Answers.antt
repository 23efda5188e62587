-- `image_walk::slot_in` meets its contract, by the number of entries. Assumes nothing.
use native.Mathlib.Omega.{arith}
use mathlib.Core.Path.{subst}
use borrow.Author.Tests.{eq-eqb, ne_eqb}
use Rattle.image_walk.specs.Bounds.{TableHere}
use Rattle.image_walk.specs.Tables.{slot_in}
use Rattle.image_walk.proofs.slot_in.Goals as goal

pub dense_slot-requires : goal.dense_slot-requires
dense_slot-requires c =
    let a = c.args in
    (subst (TableHere a.s.now a.table.at) c.if-table-eq-DENSE_ENTRIES.true c.requires.0, omega arith)

pub returns-then-table-eq-DENSE_ENTRIES : goal.returns-then-table-eq-DENSE_ENTRIES
unfolding slot_in
returns-then-table-eq-DENSE_ENTRIES c = simp (eq-eqb _ _ c.if-table-eq-DENSE_ENTRIES.true) c.dense_slot.ensures

pub returns : goal.returns
unfolding slot_in
returns c = rw c.size_at.ensures (simp (ne_eqb _ _ c.if-table-eq-DENSE_ENTRIES.false))
