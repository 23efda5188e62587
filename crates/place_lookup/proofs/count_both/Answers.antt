-- `place_lookup::count_both` meets its contract: the places of the second list so far are counted with those of the first. Assumes nothing.
use Rattle.std.proofs.Common.{◌≡◌, ◌+◌, ◌≤◌, cond, arith}
use Rattle.place_lookup.proofs.Counting.{both_start, both_next, both_done}
use Rattle.place_lookup.proofs.count_both.Goals as goal
use Rattle.place_lookup.proofs.count_both.Goals.{then-not-is_there, else-not-is_there}

pub loop-j-init : goal.loop-j-init
loop-j-init c = (omega arith, both_start _ _ _ _ c.requires.2)

pub loop-j-preserved : goal.loop-j-preserved
loop-j-preserved c =
    let turn = c.loop-j in
    let e : c.if-not-is_there.count ≡ cond c.is_there.result turn.count (turn.count + 1) = elim c.if-not-is_there.branch [ then-not-is_there w ↦ rw w.if-not-is_there.true w.count-is | else-not-is_there w ↦ rw w.if-not-is_there.false w.count-is ] in
    let few : c.if-not-is_there.count ≤ turn.count + 1 = elim c.if-not-is_there.branch [ then-not-is_there w ↦ omega (arith, w.count-is) | else-not-is_there w ↦ omega (arith, w.count-is) ] in
    (omega (arith, few, turn.invariant.0), both_next _ _ _ _ _ _ turn.j c.loop-j-test.true c.requires.3 turn.invariant.1 c.location_at-l.ensures c.is_there.ensures e)

pub returns : goal.returns
returns c = both_done _ _ _ _ _ _ (omega arith) c.loop-j-test.false c.loop-j.invariant.1
