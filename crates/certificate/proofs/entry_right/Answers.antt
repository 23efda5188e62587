-- `certificate::entry_right` meets its contract: at each answer the tests that led there decide. Assumes nothing.
use native.Mathlib.Omega.{arith}
use Rattle.certificate.proofs.Counting.{size_small}
use Rattle.certificate.proofs.entry_right.Goals as goal

pub counted-requires : goal.counted-requires
counted-requires c = (omega (arith, c.requires.0.0), size_small c.args.mem.now c.args.pieces c.requires.0 c.requires.1 c.get64-number.result (omega arith))
