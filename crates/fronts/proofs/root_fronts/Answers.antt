-- `fronts::root_fronts` meets its contract: the fronts put, and then the siblings ahead, are all siblings. Assumes nothing.
use native.Mathlib.Omega.{arith}
use mathlib.Core.Path.{refl}
use Rattle.fronts.proofs.RootFronts.{putting_start, putting_skip, putting_laid, putting_table, putting_add, putting_done}
use Rattle.fronts.proofs.root_fronts.Goals as goal
use Rattle.fronts.proofs.root_fronts.Goals.{in-Some, in_default}

pub loop-j-init : goal.loop-j-init
loop-j-init c = let a = c.args in putting_start a.s.now a.table.at a.table.count a.fronts.now (omega arith)

pub node_at-child-requires : goal.node_at-child-requires
node_at-child-requires c =
    let a = c.args in
    let o = c.loop-j in
    putting_laid a.s.now a.table.at a.table.count o.j o.fronts o.count o.invariant c.loop-j-test.true _ c.in-Some.ensures c.requires.0

pub mask_of-requires : goal.mask_of-requires
mask_of-requires c =
    let a = c.args in
    let o = c.loop-j in
    let n = c.node_at-child in
    putting_table a.s.now a.table.at a.table.count o.j o.fronts o.count o.invariant c.loop-j-test.true _ c.in-Some.ensures c.requires.0 n.result n.ensures

pub loop-j-preserved : goal.loop-j-preserved
loop-j-preserved c =
    let a = c.args in
    let o = c.loop-j in
    let l = c.loop-j-test.true in
    elim c.match-slot_in.branch [
      | in-Some w ↦
          let n = w.node_at-child in
          let m = w.mask_of in
          rw (w.fronts-is, w.count-is) (putting_add a.s.now a.table.at a.table.count o.j o.fronts o.count o.invariant l _ w.in-Some.ensures n.result n.ensures (record { table = n.result.table; mask = m.result }) refl m.ensures c.requires.0)
      | in_default w ↦ rw (w.fronts-is, w.count-is) (putting_skip a.s.now a.table.at a.table.count o.j o.fronts o.count o.invariant l w.in_default.ensures)
    ]

pub returns : goal.returns
returns c = let a = c.args in let o = c.loop-j in putting_done a.s.now a.table.at a.table.count o.j o.fronts o.count o.invariant c.loop-j-test.false
