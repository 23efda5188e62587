-- `fronts::read_ahead` meets its contract: what is left to read is the same at each front. Assumes nothing.
use Prim.Native.Nat.{◌/◌}
use mathlib.Core.Path.{◌≡◌}
use lib.ListN.{drop}
use Rattle.fronts.specs.Ahead.{part_read, fronts_read}
use Rattle.fronts.proofs.read_ahead.Given as goal

abbrev pub invariant-loop-front : goal.invariant-loop-front
invariant-loop-front l = fronts_read l.s l.byte (l.share / l.count) (drop l.front-index l.fronts) l.sum ≡ fronts_read l.s l.byte (l.share / l.count) l.fronts (part_read l.s l.at l.share)
