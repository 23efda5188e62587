-- `reading::read_part` meets its contract: a read that failed took nothing of the input. Assumes nothing.
use Rattle.std.specs.Io.KnownBytes.{Keeps}
use Rattle.reading.proofs.read_part.Given as goal

abbrev pub invariant-loop : goal.invariant-loop
invariant-loop g l = Keeps (g.R.Read.remaining l.initial.reader) (g.R.Read.remaining l.reader)
