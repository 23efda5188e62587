-- `image_walk::sparse_child` meets its contract. The loop's invariant: the child among the entries from j on is the child among all. Assumes nothing.
use Prim.Native.Nat.{◌-◌}
use native.Mathlib.Omega.{arith}
use mathlib.Core.Path.{◌≡◌, ◌∙◌}
use Rattle.image_walk.proofs.Entries.{sparse_child, sparse_end, sparse_met, sparse_on}
use Rattle.image_walk.proofs.sparse_child.Goals as goal

pub loop-j-init : goal.loop-j-init
loop-j-init c =
    let a = c.args in
    let e : a.table.count - 0 ≡ a.table.count = omega arith in
    rw e (sparse_child _ _ _ _ c.requires.1)

pub returns-then-s-e : goal.returns-then-s-e
returns-then-s-e c = rw c.size_at.ensures (sparse_met _ _ _ _ _ c.loop-j-test.true c.if-s-e.true ∙ c.loop-j.invariant)

pub loop-j-preserved : goal.loop-j-preserved
loop-j-preserved c = sparse_on _ _ _ _ _ c.loop-j-test.true c.if-s-e.false ∙ c.loop-j.invariant

pub returns : goal.returns
returns c = sparse_end _ _ _ _ _ c.loop-j-test.false ∙ c.loop-j.invariant
