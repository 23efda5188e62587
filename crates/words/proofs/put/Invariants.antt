-- `words::put` meets its contract: what is left, written from i on, is always the same. Assumes nothing.
use Prim.Native.Nat.{◌+◌, ◌-◌}
use mathlib.Core.Path.{◌≡◌}
use Rattle.words.specs.Words.{set_n}
use Rattle.words.proofs.put.Given as goal

abbrev pub invariant-loop-i : goal.invariant-loop-i
invariant-loop-i g l = set_n (g.row.N - l.i) l.s (l.at + l.i) l.rest ≡ set_n g.row.N l.initial.s l.at l.v
