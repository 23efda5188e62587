-- `image::read_node` and `image::read_table`, which call each other, meet their contracts: the levels left fall. Assumes nothing.
use Prim.Native.Nat.{◌+◌, ◌*◌, ◌-◌, ◌≤◌}
use mathlib.Core.Path.{◌≡◌}
use lib.ListN.{length}
use Rattle.fields.specs.Answers.{table_in}
use Rattle.image_format.specs.Reading.{read_node, read_table, read_turns}
use Rattle.image.proofs.+read_node_read_table.Given as goal

abbrev pub decreases-read_node : goal.decreases-read_node
decreases-read_node l = 2 * l.left

abbrev pub decreases-read_table : goal.decreases-read_table
decreases-read_table l = 2 * l.left + 1

abbrev pub invariant-read_table-loop-i : goal.invariant-read_table-loop-i
invariant-read_table-loop-i l =
    (l.i ≤ l.c.turns) × (l.past.at ≤ length l.c.bytes.now) × (l.met + l.past.nodes + l.past.entries ≤ l.past.at) ×
    (read_turns l.c.bytes.now (read_node l.c.bytes.now l.left) (table_in l.c) (l.c.turns - l.i) l.i l.past.at l.met l.past.nodes l.past.entries ≡ read_table l.c.bytes.now (read_node l.c.bytes.now l.left) (table_in l.c))

abbrev pub decreases-read_table-loop-i : goal.decreases-read_table-loop-i
decreases-read_table-loop-i l = l.c.turns - l.i
