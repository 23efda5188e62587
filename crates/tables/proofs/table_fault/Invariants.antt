-- `tables::table_fault` meets its contract. Assumes nothing.
use Prim.Native.Nat.{◌*◌, ◌+◌, ◌-◌, ◌≤◌}
use mathlib.Core.Path.{◌≡◌}
use lib.ListN.{length}
use Rattle.image_format.specs.Reading.{table_fault}
use Rattle.tables.proofs.table_fault.Given as goal

abbrev pub invariant-loop-i : goal.invariant-loop-i
invariant-loop-i l = (l.base + l.i * 9 ≤ length l.s) × (table_fault l.s l.base (l.n - l.i) l.i ≡ table_fault l.s l.base l.n 0)
