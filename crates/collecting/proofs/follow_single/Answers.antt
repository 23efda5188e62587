-- `collecting::follow_single` meets its contract: what the nodes left behind hold is added, and the levels left fall. Assumes nothing.
use native.Mathlib.Omega.{arith}
use Rattle.collecting.proofs.Callers.{standing_laid}
use Rattle.collecting.proofs.Nodes.{prefixes_within, chunks_within, collected_over}
use Rattle.collecting.proofs.Following.{follow_start, followed_stands, followed_table, followed_collected, follow_level, follow_stands, follow_next}
use Rattle.collecting.proofs.follow_single.Goals as goal

pub node_at-node-requires : goal.node_at-node-requires
node_at-node-requires c = standing_laid c.requires

pub loop-next-init : goal.loop-next-init
loop-next-init c = follow_start c.if-places.false c.node_at-node.ensures

pub only_child-requires : goal.only_child-requires
only_child-requires c = followed_table c.loop-next.invariant c.requires

pub take_both-requires : goal.take_both-requires
take_both-requires c =
    let start = c.requires in
    let there = standing_laid (followed_stands c.loop-next.invariant start) in
    (prefixes_within c.loop-next.invariant.parts there, chunks_within c.loop-next.invariant.parts there)

pub returns-in_err-take_both : goal.returns-in_err-take_both
returns-in_err-take_both c = rw c.from_residual.ensures (followed_collected c.loop-next.invariant (collected_over c.loop-next.invariant.parts c.in_err-take_both.ensures))

pub node_at-node-requires-in-Some : goal.node_at-node-requires-in-Some
node_at-node-requires-in-Some c = standing_laid (follow_stands c.loop-next.invariant c.in-Some.ensures c.requires)

pub overflow_sub-rest : goal.overflow_sub-rest
overflow_sub-rest c = follow_level c.loop-next.invariant c.in-Some.ensures c.requires

pub loop-next-smaller : goal.loop-next-smaller
loop-next-smaller c = omega (arith, follow_level c.loop-next.invariant c.in-Some.ensures c.requires)

pub loop-next-preserved : goal.loop-next-preserved
loop-next-preserved c = follow_next c.loop-next.invariant c.in-Some.ensures c.node_at-node-in-Some.ensures c.in_ok-take_both.ensures
