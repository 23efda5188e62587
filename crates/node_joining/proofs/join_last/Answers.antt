-- `node_joining::join_last` meets its contract: the two lists of the last byte are joined with, one after the other. Assumes nothing.
use Rattle.node_joining.specs.Layout.{ended_in}
use Rattle.node_joining.proofs.Asked.{ending_here}
use Rattle.node_joining.proofs.Nodes.{joined_both, both_over}
use Rattle.node_joining.proofs.join_last.Goals as goal

pub join_list-requires : goal.join_list-requires
join_list-requires c = (c.requires, (ending_here c.args.query.ending).suffixes)

pub join_list-requires-2 : goal.join_list-requires-2
join_list-requires-2 c = (c.requires, (ending_here c.args.query.ending).chunks)

pub returns-in_err-join_list : goal.returns-in_err-join_list
returns-in_err-join_list c =
    let args = c.args in
    rw c.from_residual.ensures (both_over args.k (ended_in args.query.img.now args.e) _ _ c.in_err-join_list.ensures)

pub returns : goal.returns
returns c =
    let args = c.args in
    joined_both args.k (ended_in args.query.img.now args.e) _ _ c.in_ok-join_list.ensures c.join_list-2.ensures
