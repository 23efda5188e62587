-- The proof of the cycle of calls {put_node, put_table}: a node calls its table, and a table the nodes one level down.
-- The measures are twice the levels left, and one more for a node. Assumes nothing.
use native.Mathlib.Omega.{arith}
use mathlib.Core.Path.{refl}
use Rattle.single_writer.proofs.WholeNode.{table_asked, node_written}
use Rattle.node_writer.proofs.TableTurns.{opened, asked_first, turn_called, levels}
use Rattle.node_writer.proofs.TableTurn.{turns_start, none_turn, child_asked, child_written, child_turn}
use Rattle.node_writer.proofs.TableDone.{table_written}
use Rattle.node_writer.proofs.+put_node_put_table.Goals as goal

pub put_node-put_table-requires : goal.put_node-put_table-requires
put_node-put_table-requires t c = (omega (arith, c.decreases), (table_asked c.requires.0 c.put_head-h.ensures, omega (arith, c.requires.1, c.in-Some.ensures.cases.1)))

pub put_node-returns : goal.put_node-returns
put_node-returns t c = node_written c.requires.0 c.put_head-h.ensures c.put_table.ensures

pub put_table-put_count-t-requires : goal.put_table-put_count-t-requires
put_table-put_count-t-requires t c = asked_first c.requires.0

pub put_table-loop-j-init : goal.put_table-loop-j-init
put_table-loop-j-init t c = turns_start (opened _ _ c.requires.0 c.put_count-t.ensures).2

pub put_table-put_turn-turn-requires : goal.put_table-put_turn-turn-requires
put_table-put_turn-turn-requires t c = turn_called (opened _ _ c.requires.0 c.put_count-t.ensures).2 c.loop-j.invariant c.loop-j-test.true

pub put_table-child_span-child-requires : goal.put_table-child_span-child-requires
put_table-child_span-child-requires t c =
    (levels (opened _ _ c.requires.0 c.put_count-t.ensures).2 c.loop-j.invariant c.loop-j-test.true, omega (arith, c.requires.0.grouped.few, c.put_turn-turn.ensures.picked.inside c.in-Some.g c.in-Some.is))

pub put_table-put_node-end-requires : goal.put_table-put_node-end-requires
put_table-put_node-end-requires t c =
    let a = child_asked (opened _ _ c.requires.0 c.put_count-t.ensures).2 c.loop-j.invariant c.loop-j-test.true c.put_turn-turn.ensures c.in-Some.is (c.put_turn-turn.ensures.picked.inside _ c.in-Some.is) c.child_span-child.result c.child_span-child.ensures refl in
    (omega (arith, c.decreases, a.0), (a.1, omega (arith, a.0, c.requires.1, c.loop-j.auto.levels)))

pub put_table-loop-j-preserved-in_default : goal.put_table-loop-j-preserved-in_default
put_table-loop-j-preserved-in_default t c =
    none_turn (opened _ _ c.requires.0 c.put_count-t.ensures).2 c.loop-j.invariant c.loop-j-test.true c.put_turn-turn.ensures c.in_default.is

pub put_table-loop-j-preserved : goal.put_table-loop-j-preserved
put_table-loop-j-preserved t c =
    let inside = c.put_turn-turn.ensures.picked.inside _ c.in-Some.is in
    child_turn (opened _ _ c.requires.0 c.put_count-t.ensures).2 c.loop-j.invariant c.loop-j-test.true c.put_turn-turn.ensures c.in-Some.is inside
    (child_written (opened _ _ c.requires.0 c.put_count-t.ensures).2 c.loop-j.invariant c.loop-j-test.true c.put_turn-turn.ensures c.in-Some.is inside c.child_span-child.result c.child_span-child.ensures refl c.put_node-end.ensures)

pub put_table-returns : goal.put_table-returns
put_table-returns t c = table_written c.requires.0 c.put_count-t.ensures c.loop-j.invariant c.loop-j-test.false
