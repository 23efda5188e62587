-- `index_memory::piece_nodes` meets its contract: the product is small. Assumes nothing.
use native.Mathlib.Omega.{arith}
use Rattle.index_memory.proofs.Charges.{square_bound}
use Rattle.index_memory.proofs.piece_nodes.Goals as goal

pub overflow_mul-result : goal.overflow_mul-result
overflow_mul-result c = record { fits = omega (arith, square_bound c.args.m c.requires) }
