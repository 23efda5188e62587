-- `certificate::Certified::pair_apart` meets its contract: the entries before j have been walked through. Assumes nothing.
use Rattle.lined_locations.specs.Line.{location_of}
use Rattle.certificate.specs.Entries.{piece_end}
use Rattle.certificate.proofs.Groups.{Walked}
use Rattle.certificate.proofs.certified.Certified.pair_apart.Given as goal

abbrev pub invariant-loop-j : goal.invariant-loop-j
invariant-loop-j l = Walked (location_of l.self.entries.line) (piece_end l.self.entries.line) l.i l.e l.g l.h l.j l.q
