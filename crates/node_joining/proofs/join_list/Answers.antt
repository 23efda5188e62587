-- `node_joining::join_list` meets its contract: the two lists of the node are joined, one after the other. Assumes nothing.
use Rattle.joining.specs.Lists.{listed}
use Rattle.node_joining.proofs.Nodes.{joined_ended, ended_over}
use Rattle.node_joining.proofs.join_list.Goals as goal

pub returns-in_err-filter_lists : goal.returns-in_err-filter_lists
returns-in_err-filter_lists c =
    let args = c.args in
    rw c.from_residual.ensures (ended_over args.img.now args.k (listed args.img.now args.to) args.e c.in_err-filter_lists.ensures)

pub returns : goal.returns
returns c =
    let args = c.args in
    joined_ended args.img.now args.k (listed args.img.now args.to) args.e c.in_ok-filter_lists.ensures c.filter_lists-2.ensures
