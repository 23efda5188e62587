-- `image_walk::sparse_child` meets its contract. The loop's invariant: the child among the entries from j on is the child among all. Assumes nothing.
use Prim.Native.Nat.{◌-◌}
use mathlib.Core.Path.{◌≡◌}
use Rattle.image_format.specs.Held.{sparse_entries}
use Rattle.image_walk.specs.Tables.{entries_at, node_for}
use Rattle.image_walk.proofs.sparse_child.Given as goal

abbrev pub invariant-loop-j : goal.invariant-loop-j
invariant-loop-j l = node_for (sparse_entries l.s l.table.at (l.table.count - l.j) l.j) l.byte ≡ node_for (entries_at l.s l.table.at l.table.count) l.byte
