-- `places::run` is safe and ends. Assumes nothing.
use mathlib.Core.Path.{◌≡◌}
use lib.ListN.{length}
use Rattle.places.proofs.run.Given as goal

abbrev pub invariant-loop : goal.invariant-loop
invariant-loop g l = length l.out.bytes.now ≡ length l.initial.out.bytes.now
