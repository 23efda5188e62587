-- `words::get` meets its contract: what was read is the number of the bytes behind i. Assumes nothing.
use Prim.Native.Nat.{◌+◌, ◌-◌}
use mathlib.Core.Path.{◌≡◌}
use Rattle.words.specs.Words.{le_n}
use Rattle.words.proofs.get.Given as goal

abbrev pub invariant-loop-i : goal.invariant-loop-i
invariant-loop-i g l = l.v ≡ le_n (g.row.N - l.i) l.s (l.at + l.i)
