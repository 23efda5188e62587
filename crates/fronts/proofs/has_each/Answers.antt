-- `fronts::has_each` meets its contract: the entries ahead decide. Assumes nothing.
use native.Mathlib.Omega.{arith}
use mathlib.Core.Path.{sym, ◌∙◌}
use Rattle.fronts.proofs.WithinLaws.{checking_start, checking_skip, checking_lost, checking_met, checking_done}
use Rattle.fronts.proofs.has_each.Goals as goal
use Rattle.fronts.proofs.has_each.Goals.{in-Some+else-not-has, in_default}

pub loop-j-init : goal.loop-j-init
loop-j-init g c p k = let a = c.args in checking_start a.s.now p a.table.at a.table.count

pub returns-then-not-has : goal.returns-then-not-has
returns-then-not-has g c p k =
    let a = c.args in
    let o = c.loop-j in
    checking_lost a.s.now p a.table.at a.table.count o.j (o.invariant p k) c.loop-j-test.true _ c.in-Some.ensures (sym c.if-not-has.true ∙ k _ _ (omega arith) c.has.ensures)

pub loop-j-preserved : goal.loop-j-preserved
loop-j-preserved g c p k =
    let a = c.args in
    let o = c.loop-j in
    elim c.match-slot_in.branch [
      | in-Some+else-not-has w ↦ checking_met a.s.now p a.table.at a.table.count o.j (o.invariant p k) c.loop-j-test.true _ w.in-Some.ensures (sym w.if-not-has.false ∙ k _ _ (omega arith) w.has.ensures)
      | in_default w ↦ checking_skip a.s.now p a.table.at a.table.count o.j (o.invariant p k) c.loop-j-test.true w.in_default.ensures
    ]

pub returns : goal.returns
returns g c p k = let a = c.args in let o = c.loop-j in checking_done a.s.now p a.table.at a.table.count o.j (o.invariant p k) c.loop-j-test.false
