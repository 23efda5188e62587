-- `image_conflicts::children_due` and `image_conflicts::node_due`, which call each other, meet their contracts: the levels left fall.
-- Assumes nothing.
use Prim.Native.Nat.{◌+◌}
use native.Mathlib.Omega.{arith}
use mathlib.Core.Path.{sym, subst}
use Rattle.image_conflicts.proofs.Nodes.{chunks_in, chunks_ending, children_asked, node_struck, node_bare, node_below, no_levels, passing_done, passing_skip, node_asked, passing_struck, passing_on, Passing}
use Rattle.image_conflicts.proofs.+due.Goals as goal
use Rattle.image_conflicts.proofs.+due.Goals.{children_due-in-Some+in_ok-rest, children_due-in_default}

pub children_due-returns-then-left-eq0 : goal.children_due-returns-then-left-eq0
children_due-returns-then-left-eq0 t c =
    let a = c.args in
    no_levels a.v.line a.n a.m a.left a.due c.if-left-eq0.true

pub children_due-node_due-requires : goal.children_due-node_due-requires
children_due-node_due-requires t c =
    let a = c.args in
    let l = c.loop-j in
    let p = c.requires in
    (omega (arith, c.decreases, c.if-left-eq0.false), (node_asked a.v.line a.n a.m a.left a.due l.j l.rest l.invariant c.loop-j-test.true _ c.in-Some.ensures p c.if-left-eq0.false))

pub children_due-returns-in_err-rest : goal.children_due-returns-in_err-rest
children_due-returns-in_err-rest t c =
    let a = c.args in
    let l = c.loop-j in
    passing_struck a.v.line a.n a.m a.left a.due l.j l.rest l.invariant c.loop-j-test.true _ c.in-Some.ensures c.in_err-rest.ensures _ c.from_residual.ensures

pub children_due-loop-j-preserved : goal.children_due-loop-j-preserved
children_due-loop-j-preserved t c =
    let a = c.args in
    let l = c.loop-j in
    elim c.match-slot_in.branch [
      | children_due-in-Some+in_ok-rest w ↦
          subst (Passing a.v.line a.n a.m a.left a.due (l.j + 1)) (sym w.rest-is) (passing_on a.v.line a.n a.m a.left a.due l.j l.rest l.invariant c.loop-j-test.true _ w.in-Some.ensures _ w.in_ok-rest.ensures)
      | children_due-in_default w ↦
          subst (Passing a.v.line a.n a.m a.left a.due (l.j + 1)) (sym w.rest-is) (passing_skip a.v.line a.n a.m a.left a.due l.j l.rest l.invariant c.loop-j-test.true w.in_default.ensures)
    ]

pub children_due-returns : goal.children_due-returns
children_due-returns t c =
    let a = c.args in
    let l = c.loop-j in
    passing_done a.v.line a.n a.m a.left a.due l.j l.rest l.invariant (omega (arith, c.loop-j-test.false))

pub node_due-chunks_due-requires : goal.node_due-chunks_due-requires
node_due-chunks_due-requires t c =
    let a = c.args in
    let p = c.requires in
    let n = c.node_at-n in
    (chunks_in a.v.line a.at a.left n.result n.ensures a.m p, chunks_ending a.v.line a.at a.left n.result n.ensures a.m p)

pub node_due-returns-in_err-rest : goal.node_due-returns-in_err-rest
node_due-returns-in_err-rest t c =
    let a = c.args in
    let n = c.node_at-n in
    node_struck a.v.line a.at a.left n.result n.ensures a.m a.due c.in_err-rest.ensures _ c.from_residual.ensures

pub node_due-returns-then-n-eq0 : goal.node_due-returns-then-n-eq0
node_due-returns-then-n-eq0 t c =
    let a = c.args in
    let n = c.node_at-n in
    node_bare a.v.line a.at a.left n.result n.ensures a.m a.due _ c.in_ok-rest.ensures c.if-n-eq0.true

pub node_due-children_due-requires : goal.node_due-children_due-requires
node_due-children_due-requires t c =
    let a = c.args in
    let n = c.node_at-n in
    let p = c.requires in
    (omega (arith, c.decreases), children_asked a.v.line a.at a.left n.result n.ensures a.m p)

pub node_due-returns : goal.node_due-returns
node_due-returns t c =
    let a = c.args in
    let n = c.node_at-n in
    let x = c.children_due in
    node_below a.v.line a.at a.left n.result n.ensures a.m a.due _ c.in_ok-rest.ensures c.if-n-eq0.false x.result x.ensures
