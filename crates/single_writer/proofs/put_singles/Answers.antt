-- `single_writer::put_singles` meets its contract: what is written below the nodes so far completes the whole. Assumes nothing.
use Prim.Native.Nat.{suc, ◌+◌, ◌-◌}
use native.Mathlib.Omega.{arith}
use mathlib.Core.Path.{◌≡◌, ◌∙◌}
use Rattle.single_writer.proofs.SingleChain.{goes_on, goes_not, single_short, single_head, single_long, next_asked, single_on, single_leaf}
use Rattle.single_writer.proofs.put_singles.Goals as goal

pub loop-mem-preserved : goal.loop-mem-preserved
loop-mem-preserved c =
    let inv = c.loop-mem.invariant in
    let k = c.loop-mem.k in
    let long = goes_on c.loop-mem.mem c.args.work c.args.i c.loop-mem.k c.goes_on.ensures c.loop-mem-test.true in
    let deep : 16 - k ≡ suc (16 - (k + 1)) = omega (arith, inv.0.depth, single_short inv.0.held) in
    let w = c.put_single-end.ensures in
    (next_asked inv.0 long deep w, (λ s r v. inv.1 s r (single_on inv.0 long deep w v)), c.put_single-end.auto.mem ∙ inv.2)

pub put_leaf-requires : goal.put_leaf-requires
put_leaf-requires c = (single_head c.loop-mem.invariant.0, omega (arith, single_long c.loop-mem.invariant.0, goes_not c.loop-mem.mem c.args.work c.args.i c.loop-mem.k c.goes_on.ensures c.loop-mem-test.false))

pub returns : goal.returns
returns c = c.loop-mem.invariant.1 _ _ (single_leaf c.loop-mem.invariant.0 (omega (arith, single_long c.loop-mem.invariant.0, goes_not c.loop-mem.mem c.args.work c.args.i c.loop-mem.k c.goes_on.ensures c.loop-mem-test.false)) c.put_leaf.ensures)
