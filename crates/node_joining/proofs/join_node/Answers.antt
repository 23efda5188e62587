-- `node_joining::join_node` meets its contract: the two lists of the node are joined, one after the other. Assumes nothing.
use Rattle.joining.specs.Lists.{listed, spanned}
use Rattle.node_joining.proofs.Nodes.{joined_ended, ended_over, joined_chunks, joined_later}
use Rattle.node_joining.proofs.join_node.Goals as goal

pub returns-then-e-eq0 : goal.returns-then-e-eq0
returns-then-e-eq0 c =
    let args = c.args in
    joined_chunks args.img.now args.k (spanned args.places.now.scratch.now args.behind) args.e c.if-e-eq0.true c.filter_results.ensures

pub returns-in_err-filter_results : goal.returns-in_err-filter_results
returns-in_err-filter_results c =
    let args = c.args in
    rw c.from_residual.ensures (ended_over args.img.now args.k (spanned args.places.now.scratch.now args.behind) args.e c.in_err-filter_results.ensures)

pub returns : goal.returns
returns c =
    let args = c.args in
    let first = c.in_ok-filter_results.ensures in
    joined_ended args.img.now args.k (spanned args.places.now.scratch.now args.behind) args.e first (joined_later args.k (listed args.img.now args.e.chunks) args.behind c.requires.1 c.requires.2 first c.filter_results-3.ensures)
