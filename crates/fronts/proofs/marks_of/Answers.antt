-- `fronts::marks_of` meets its contract: a byte with a child is marked or ahead. Assumes nothing.
use native.Mathlib.Omega.{arith}
use mathlib.Core.Path.{refl, ◌∙◌}
use mathlib.Core.Bool.{true}
use lib.ListN.{length-set}
use Rattle.fronts.proofs.MarkLaws.{marking_start, marking_skip, marking_add, marking_done}
use Rattle.fronts.proofs.marks_of.Goals as goal
use Rattle.fronts.proofs.marks_of.Goals.{in-Some, in_default}

pub loop-j-init : goal.loop-j-init
loop-j-init c = let a = c.args in (marking_start a.s.now a.table.at a.table.count 256, refl)

pub loop-j-preserved : goal.loop-j-preserved
loop-j-preserved c =
    let a = c.args in
    let o = c.loop-j in
    elim c.match-slot_in.branch [
      | in-Some w ↦
          rw w.has-is
          (marking_add a.s.now a.table.at a.table.count o.j o.has o.invariant.0 c.loop-j-test.true _ w.in-Some.ensures (omega (arith, o.invariant.1)), length-set o.has w.in-Some.entry.byte true ∙ o.invariant.1)
      | in_default w ↦ rw w.has-is (marking_skip a.s.now a.table.at a.table.count o.j o.has o.invariant.0 c.loop-j-test.true w.in_default.ensures, o.invariant.1)
    ]

pub returns : goal.returns
returns c = let a = c.args in let o = c.loop-j in marking_done a.s.now a.table.at a.table.count o.j o.has o.invariant.0 c.loop-j-test.false
