-- `tables::find_byte` meets its contract. Assumes nothing.
use Prim.Native.Nat.{◌-◌}
use mathlib.Core.Path.{◌≡◌}
use Rattle.image_format.specs.Reading.{find_byte}
use Rattle.tables.proofs.find_byte.Given as goal

abbrev pub invariant-loop-j : goal.invariant-loop-j
invariant-loop-j l = find_byte l.s l.base l.b (l.n - l.j) l.j ≡ find_byte l.s l.base l.b l.n 0
