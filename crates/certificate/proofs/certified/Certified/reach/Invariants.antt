-- `certificate::Certified::reach` meets its contract: the pieces before entry j don't go beyond the end so far. Assumes nothing.
use Rattle.certificate.specs.Entries.{piece_end}
use Rattle.certificate.specs.Groups.{NoneBeyond}
use Rattle.certificate.proofs.certified.Certified.reach.Given as goal

abbrev pub invariant-loop-j : goal.invariant-loop-j
invariant-loop-j l = NoneBeyond (piece_end l.self.entries.line) l.i l.j l.end
