-- `node_joining::join_behind` meets its contract: the places behind a node are the lists of the last byte, or stand in scratch. Assumes nothing.
use Prim.Native.Nat.{◌+◌, ◌-◌, ◌<◌}
use native.Mathlib.Omega.{arith}
use lib.ListN.{length}
use lib.Dec.{eqb}
use Rattle.node_joining.specs.Layout.{ended_in}
use Rattle.node_joining.proofs.Nodes.{ended_here, joined_none, joined_at, joined_with, behind_last, behind_order, behind_below, behind_places}
use Rattle.node_joining.proofs.join_behind.Goals as goal

pub returns-then-is_empty : goal.returns-then-is_empty
returns-then-is_empty c =
    let img = c.args.query.img.now in
    let step = c.args.step in
    joined_at img (step.j - step.i) _ (eqb step.i 0) step.n c.at-e.ensures (joined_none img (step.j - step.i) _ _ c.if-places.false (c.is_empty.ensures c.if-is_empty.true))

pub join_last-requires : goal.join_last-requires
join_last-requires c = ended_here (eqb c.args.step.i 0) c.at-e.ensures c.requires.0

pub returns-then-j-query : goal.returns-then-j-query
returns-then-j-query c =
    let query = c.args.query in
    let img = query.img.now in
    let step = c.args.step in
    joined_at img (step.j - step.i) _ (eqb step.i 0) step.n c.at-e.ensures (behind_last (step.j - step.i) (ended_in img _) img query.bytes.now step.j (omega arith) c.if-j-query.true query.ending c.join_last.ensures)

pub offset_bounds-ends-j : goal.offset_bounds-ends-j
offset_bounds-ends-j c = omega (arith, c.requires.3.long, c.well_formed)

pub offset_bounds-ends-j-2 : goal.offset_bounds-ends-j-2
offset_bounds-ends-j-2 c = omega (arith, c.requires.3.long, c.well_formed)

pub join_node-requires : goal.join_node-requires
join_node-requires c =
    let step = c.args.step in
    let more : step.j + 1 < length c.args.query.bytes.now = omega (arith, c.if-j-query.false) in
    (ended_here (eqb step.i 0) c.at-e.ensures c.requires.0, behind_order step.i step.j c.requires.3 c.requires.1 more, omega (arith, behind_below step.i step.j c.requires.3 c.requires.1 more, c.requires.4))

pub returns : goal.returns
returns c =
    let img = c.args.query.img.now in
    let step = c.args.step in
    let more : step.j + 1 < length c.args.query.bytes.now = omega (arith, c.if-j-query.false) in
    joined_at img (step.j - step.i) _ (eqb step.i 0) step.n c.at-e.ensures (joined_with (step.j - step.i) (ended_in img _) (behind_places step.i step.j c.requires.3 c.requires.1 more) c.join_node.ensures)
