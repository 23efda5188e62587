-- `node_writer::put_head` meets its contract: the runs end where the tails say. Assumes nothing.
use Rattle.single_writer.proofs.NodeHead.{parts_held, parts_upto, mid_held, mid_upto, mid_longer, mid_few, head_written}
use Rattle.node_writer.proofs.put_head.Goals as goal

pub run_end-below-requires : goal.run_end-below-requires
run_end-below-requires c =
    let q = c.requires in
    let e = c.run_end-parts.ensures in
    (parts_upto q e, q.memory, q.depth, parts_held q e)

pub find_groups-requires : goal.find_groups-requires
find_groups-requires c =
    let q = c.requires in
    let e = c.run_end-parts.ensures in
    let f = c.run_end-below.ensures in
    (mid_upto q e f, q.memory, mid_held q e f, mid_longer q e f, mid_few q e f)

pub returns : goal.returns
returns c = head_written c.requires c.run_end-parts.ensures c.run_end-below.ensures c.put_front-end.ensures c.find_groups.ensures
