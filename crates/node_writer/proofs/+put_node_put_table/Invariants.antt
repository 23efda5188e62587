-- The proof of the cycle of calls {put_node, put_table}: a node calls its table, and a table the nodes one level down.
-- The measures are twice the levels left, and one more for a node. Assumes nothing.
use Prim.Native.Nat.{◌+◌, ◌-◌, ◌*◌}
use Rattle.node_writer.proofs.TableTurns.{OnTurns}
use Rattle.node_writer.proofs.+put_node_put_table.Given as goal

abbrev pub decreases-put_node : goal.decreases-put_node
decreases-put_node l = 2 * (16 - l.s.depth) + 1

abbrev pub decreases-put_table : goal.decreases-put_table
decreases-put_table l = 2 * (16 - l.s.depth)

abbrev pub invariant-put_table-loop-j : goal.invariant-put_table-loop-j
invariant-put_table-loop-j l = OnTurns l.initial.mem l.mem l.s.work l.s.lo l.s.hi l.s.depth l.groups.count l.t l.initial.end l.end (16 - l.s.depth) l.j l.met
