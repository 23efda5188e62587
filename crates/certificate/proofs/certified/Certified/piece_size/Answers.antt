-- `certificate::Certified::piece_size` meets its contract: an entry's number and its piece lie within the memory. Assumes nothing.
use native.Mathlib.Omega.{arith}
use Rattle.lined_locations.proofs.Places.{logged_within}
use Rattle.certificate.proofs.certified.Certified.piece_size.Goals as goal

pub overflow_mul-number : goal.overflow_mul-number
overflow_mul-number c = omega (arith, logged_within c.args.self.entries.line c.args.i c.requires c.args.self.logged, c.get64-number.ensures)

pub overflow_add-number : goal.overflow_add-number
overflow_add-number c = omega (arith, logged_within c.args.self.entries.line c.args.i c.requires c.args.self.logged, c.get64-number.ensures)
