-- `node_rule::node_right` meets its contract: the three tests, one after another. Assumes nothing.
use Rattle.std.proofs.Common.{rules}
use Rattle.node_rule.proofs.Nodes.{node_is}
use Rattle.node_rule.proofs.node_right.Goals as goal

pub returns-then-lists_right-clause-says : goal.returns-then-lists_right-clause-says
returns-then-lists_right-clause-says c d n h =
    let a = c.args in
    let e = c.suffixes_right.ensures.says d n h in
    rw (node_is a.s.now a.n a.depth d n h) (search rules)

pub returns-else-lists_right-clause-says : goal.returns-else-lists_right-clause-says
returns-else-lists_right-clause-says c d n h =
    let a = c.args in
    rw (node_is a.s.now a.n a.depth d n h) (search rules)
