-- `node_rule::suffixes_right` meets its contract: the union of the children's lists. Assumes nothing.
use Rattle.node_rule.proofs.Nodes.{suffixes_say}
use Rattle.node_rule.proofs.suffixes_right.Goals as goal

pub child_lists-requires : goal.child_lists-requires
child_lists-requires c = let p = c.requires.0 in (record { depth = p.depth; forest = p.node.children; is = p.is.table }, c.requires.1)

pub is_union-requires : goal.is_union-requires
is_union-requires c = (c.requires.0.is.suffixes_in, c.child_lists.ensures.says.valid)

pub returns-clause-says : goal.returns-clause-says
returns-clause-says c =
    let a = c.args in
    let f = c.child_lists in
    let g = c.is_union in
    suffixes_say a.s.now a.n 0 f.new.lists g.result f.ensures.says g.ensures.says
