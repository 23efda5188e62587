-- `words::get` meets its contract: what was read is the number of the bytes behind i. Assumes nothing.
use Prim.Native.Nat.{◌+◌, ◌-◌, ◌^◌, ◌<◌}
use native.Mathlib.Omega.{arith}
use Rattle.words.proofs.Turns.{read_none, read_one, read_small}
use Rattle.words.proofs.get.Goals as goal

pub loop-i-init : goal.loop-i-init
loop-i-init g c = read_none g.row.N c.args.s.now _

pub overflow_mul-v : goal.overflow_mul-v
overflow_mul-v g c =
    let v : c.loop-i.v < 2 ^ 56 =
    read_small g.row.N c.loop-i.i c.args.s.now c.args.at c.loop-i.v (λ k. (c.type_inv.s k).fits) c.loop-i-test.true c.loop-i.auto.i c.requires.size c.loop-i.invariant in
    record { fits = omega arith }

pub overflow_add-v : goal.overflow_add-v
overflow_add-v g c =
    let v : c.loop-i.v < 2 ^ 56 =
    read_small g.row.N c.loop-i.i c.args.s.now c.args.at c.loop-i.v (λ k. (c.type_inv.s k).fits) c.loop-i-test.true c.loop-i.auto.i c.requires.size c.loop-i.invariant in
    record { fits = omega (arith, c.type_inv.s (c.args.at + (c.loop-i.i - 1)), c.from.ensures) }

pub loop-i-preserved : goal.loop-i-preserved
loop-i-preserved g c = read_one g.row.N c.loop-i.i c.args.s.now c.args.at c.loop-i.v c.from.result c.loop-i-test.true c.loop-i.auto.i c.loop-i.invariant c.from.ensures
