-- `fronts::read_part` meets its contract: what is left to read is the same at each word. Assumes nothing.
use Prim.Native.Nat.{◌+◌, ◌*◌, ◌-◌}
use mathlib.Core.Path.{◌≡◌}
use Rattle.fronts.specs.Ahead.{words_read}
use Rattle.fronts.proofs.read_part.Given as goal

abbrev pub invariant-loop-i : goal.invariant-loop-i
invariant-loop-i l = words_read l.s (l.parts - l.i) (l.at + l.i * 64) l.sum ≡ words_read l.s l.parts l.at 0
