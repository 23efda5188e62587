-- The table of a node, by the number of its kind. Assumes nothing.
use Prim.Native.Nat.{ℕ}
use mathlib.Core.Path.{◌≡◌, ap}
use Rattle.image_format.specs.Reading.{Table, table}

-- the table, with the number that its kind has
pub table_numbered : (t : Table) (k : ℕ) → k ≡ t.kind → table (record { kind = k; base = t.base; count = t.count; start = t.start; turns = t.turns }) ≡ table t
table_numbered t k e = ap (λ (x : ℕ). table (record { kind = x; base = t.base; count = t.count; start = t.start; turns = t.turns })) e
