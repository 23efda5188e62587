-- `forest_rule::child_right`, `forest_rule::each_right` and `forest_rule::children_right` meet their contracts. Assumes nothing.
use Prim.Native.Nat.{◌+◌, ◌*◌}
use native.Mathlib.Omega.{arith}
use mathlib.Core.Path.{sym, subst}
use Rattle.location_lists.proofs.Buffers.{same_then}
use Rattle.fronts.proofs.Fronts.{has_part}
use Rattle.forest_rule.proofs.Forest.{child_asked, child_by_node, child_not_children, child_not_union, child_parts, children_asked, children_none, has_fronts, turning_done, turning_lost, turning_on, turning_skip, Turning}
use Rattle.forest_rule.proofs.RunBelow.{below_asked, below_then}
use Rattle.forest_rule.proofs.+rule.Goals as goal
use Rattle.forest_rule.proofs.+rule.Goals.{each_right-in-Some+else-not-child_right, each_right-in_default}

pub child_right-is_union-requires : goal.child_right-is_union-requires
child_right-is_union-requires t c =
    let a = c.args in
    let n = c.node_at-c in
    ((child_parts a.s.now a.child a.fronts.now a.count a.left n.result n.ensures c.requires.0).is.prefixes_in, c.next_fronts-met.ensures.says.valid)

pub child_right-returns-then-not-is_union-clause-says : goal.child_right-returns-then-not-is_union-clause-says
child_right-returns-then-not-is_union-clause-says t c =
    let a = c.args in
    let n = c.node_at-c in
    let f = c.next_fronts-met in
    let u = c.is_union in
    child_not_union a.s.now a.child a.fronts.now a.count a.left n.result n.ensures f.new.fronts f.result f.new.lists f.ensures.says u.result u.ensures.says c.if-not-is_union.true

pub child_right-children_right-requires : goal.child_right-children_right-requires
child_right-children_right-requires t c =
    let a = c.args in
    let n = c.node_at-c in
    let f = c.next_fronts-met in
    let u = c.is_union in
    (omega (arith, c.decreases), (children_asked a.s.now a.child a.fronts.now a.count a.left n.result n.ensures c.requires.0 f.new.fronts f.result f.new.lists f.ensures.says, omega (arith, f.ensures.lent.same_length, u.ensures.keeps.same_length, c.requires.1)))

pub child_right-returns-then-not-children_right-clause-says : goal.child_right-returns-then-not-children_right-clause-says
child_right-returns-then-not-children_right-clause-says t c =
    let a = c.args in
    let n = c.node_at-c in
    let f = c.next_fronts-met in
    let u = c.is_union in
    let x = c.children_right in
    child_not_children a.s.now a.child a.fronts.now a.count a.left n.result n.ensures f.new.fronts f.result f.new.lists f.ensures.says u.result u.ensures.says c.if-not-is_union.false x.new.fronts x.result x.ensures.says c.if-not-children_right.true

pub child_right-node_right-requires : goal.child_right-node_right-requires
child_right-node_right-requires t c =
    let a = c.args in
    let n = c.node_at-c in
    (child_parts a.s.now a.child a.fronts.now a.count a.left n.result n.ensures c.requires.0, omega (arith, c.next_fronts-met.ensures.lent.same_length, c.is_union.ensures.keeps.same_length, c.children_right.ensures.lent.same_length, c.requires.1))

pub child_right-returns-clause-says : goal.child_right-returns-clause-says
child_right-returns-clause-says t c =
    let a = c.args in
    let n = c.node_at-c in
    let f = c.next_fronts-met in
    let u = c.is_union in
    let x = c.children_right in
    let v = c.node_right in
    child_by_node a.s.now a.child a.fronts.now a.count a.left n.result n.ensures f.new.fronts f.result f.new.lists f.ensures.says u.result u.ensures.says c.if-not-is_union.false x.new.fronts x.result x.ensures.says c.if-not-children_right.false v.result v.ensures.says

pub each_right-returns-then-here-eq0-clause-says : goal.each_right-returns-then-here-eq0-clause-says
each_right-returns-then-here-eq0-clause-says t c = children_none _ _ _ _ c.if-here-eq0.true

pub each_right-child_right-requires : goal.each_right-child_right-requires
each_right-child_right-requires t c =
    let a = c.args in
    let o = c.loop-j in
    (omega (arith, c.decreases, c.if-here-eq0.false), (child_asked a.s.now a.here a.fronts.now a.count o.j o.fronts o.invariant.0 c.loop-j-test.true _ c.in-Some.ensures c.requires.0 c.if-here-eq0.false, omega (arith, o.invariant.1.same_length, c.requires.1)))

pub each_right-returns-then-not-child_right-clause-says : goal.each_right-returns-then-not-child_right-clause-says
each_right-returns-then-not-child_right-clause-says t c =
    let a = c.args in
    let o = c.loop-j in
    let x = c.child_right in
    turning_lost a.s.now a.here a.fronts.now a.count o.j o.fronts o.invariant.0 c.loop-j-test.true _ c.in-Some.ensures x.new.fronts x.result x.ensures.says c.if-not-child_right.true

pub each_right-loop-j-preserved : goal.each_right-loop-j-preserved
each_right-loop-j-preserved t c =
    let a = c.args in
    let o = c.loop-j in
    elim c.match-slot_in.branch [
      | each_right-in-Some+else-not-child_right w ↦
          let x = w.child_right in (
            subst (Turning a.s.now a.here a.fronts.now a.count (o.j + 1)) (sym w.fronts-is)
                (turning_on a.s.now a.here a.fronts.now a.count o.j o.fronts o.invariant.0 c.loop-j-test.true _ w.in-Some.ensures x.new.fronts x.result x.ensures.says w.if-not-child_right.false),
            rw w.lists-is (same_then o.invariant.1 x.ensures.lent),
          )
      | each_right-in_default w ↦
          (subst (Turning a.s.now a.here a.fronts.now a.count (o.j + 1)) (sym w.fronts-is) (turning_skip a.s.now a.here a.fronts.now a.count o.j o.fronts o.invariant.0 c.loop-j-test.true w.in_default.ensures), rw w.lists-is o.invariant.1)
    ]

pub each_right-fronts_within-requires : goal.each_right-fronts_within-requires
each_right-fronts_within-requires t c =
    let a = c.args in
    let k = c.requires.0 in
    let o = c.loop-j in
    (record { depth = a.here.left; forest = k.forest; is = k.is }, has_part a.s.now o.fronts (a.here.depth * 256) a.count _ (omega arith) (omega (arith, k.levels, k.fronts_here.few)) (has_fronts a.s.now a.here a.fronts.now a.count o.j o.fronts o.invariant.0 k))

pub each_right-returns-clause-says : goal.each_right-returns-clause-says
each_right-returns-clause-says t c =
    let a = c.args in
    let o = c.loop-j in
    let k = c.requires.0 in
    let w = c.fronts_within in
    turning_done a.s.now a.here a.fronts.now a.count o.j o.fronts o.invariant.0 (omega (arith, c.loop-j-test.false)) _ (omega arith) (omega (arith, k.levels, k.fronts_here.few)) w.result w.ensures

pub children_right-each_right-requires : goal.children_right-each_right-requires
children_right-each_right-requires t c =
    let a = c.args in
    let l = c.run_below in
    (omega (arith, c.decreases), (below_asked a.s.now a.below a.fronts.now a.count l.new.fronts _ _ c.in-GoesOn.ensures.says c.requires.0, omega (arith, c.in-GoesOn.ensures.lent.same_length, c.requires.1)))

pub children_right-returns-in-GoesOn-clause-says : goal.children_right-returns-in-GoesOn-clause-says
children_right-returns-in-GoesOn-clause-says t c =
    let a = c.args in
    let l = c.run_below in
    let x = c.each_right in
    below_then a.s.now a.below a.fronts.now a.count l.new.fronts _ _ c.in-GoesOn.ensures.says x.new.fronts x.result x.ensures.says
