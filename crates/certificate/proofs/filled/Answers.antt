-- `certificate::filled` meets its contract: the pieces before k are counted. Assumes nothing.
use Prim.Native.Nat.{◌+◌}
use native.Mathlib.Omega.{arith}
use Rattle.certificate.proofs.Counting.{size_small, filled_start, filled_next, filled_few}
use Rattle.certificate.proofs.filled.Goals as goal

pub loop-k-init : goal.loop-k-init
loop-k-init c = (omega arith, filled_start c.args.mem.now c.args.pieces c.requires.0 c.requires.1)

pub counted-count-requires : goal.counted-count-requires
counted-count-requires c = (omega (arith, c.requires.0.0), size_small c.args.mem.now c.args.pieces c.requires.0 c.requires.1 c.loop-k.k (omega arith))

pub loop-k-preserved : goal.loop-k-preserved
loop-k-preserved c =
    let next = filled_next c.args.mem.now c.args.pieces c.requires.0 c.requires.1 c.loop-k.k c.loop-k.count c.counted-count.result (omega arith) c.loop-k.invariant.1 c.counted-count.ensures in
    (omega (arith, next, filled_few c.args.mem.now c.args.pieces c.requires.0 c.requires.1 (c.loop-k.k + 1)), next)
