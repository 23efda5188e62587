-- `node_rule::child_lists` meets its contract: the lists gone over, and then those of the entries ahead, are those of all children. Assumes nothing.
use native.Mathlib.Omega.{arith}
use mathlib.Core.Path.{refl, ◌∙◌}
use Rattle.location_lists.specs.Lists.{emptied}
use Rattle.location_lists.proofs.Buffers.{same_then}
use Rattle.node_rule.proofs.Children.{listing_start, listing_skip, listing_laid, listing_parts, listing_add, listing_done}
use Rattle.node_rule.proofs.TwoLists.{same_two}
use Rattle.node_rule.proofs.child_lists.Goals as goal
use Rattle.node_rule.proofs.child_lists.Goals.{in-Some, in_default}

pub loop-j-init : goal.loop-j-init
loop-j-init c = let a = c.args in rw c.clear.ensures (listing_start a.s.now a.table.at a.table.count (emptied a.lists.now) refl c.requires.1, record { same_reference = refl; same_length = refl })

pub node_at-child-requires : goal.node_at-child-requires
node_at-child-requires c =
    let a = c.args in
    let o = c.loop-j in
    listing_laid a.s.now a.table.at a.table.count o.j o.lists o.invariant.0 c.loop-j-test.true _ c.in-Some.ensures c.requires.0

pub add_two-requires : goal.add_two-requires
add_two-requires c =
    let a = c.args in
    let o = c.loop-j in
    let n = c.node_at-child in
    let p = (listing_parts a.s.now a.table.at a.table.count o.j o.lists o.invariant.0 c.loop-j-test.true _ c.in-Some.ensures c.requires.0 n.result n.ensures).is in
    (omega (arith, o.invariant.0.few, o.invariant.0.size, c.requires.0.is.most), omega (arith, p.chunks_in), omega (arith, p.suffixes_in))

pub loop-j-preserved : goal.loop-j-preserved
loop-j-preserved c =
    let a = c.args in
    let o = c.loop-j in
    elim c.match-slot_in.branch [
      | in-Some w ↦
          let n = w.node_at-child in
          rw (w.lists-is ∙ w.add_two.ensures)
          (listing_add a.s.now a.table.at a.table.count o.j o.lists o.invariant.0 c.loop-j-test.true _ w.in-Some.ensures c.requires.0 n.result n.ensures, same_then o.invariant.1 (same_two o.lists n.result.chunks n.result.suffixes))
      | in_default w ↦ rw w.lists-is (listing_skip a.s.now a.table.at a.table.count o.j o.lists o.invariant.0 c.loop-j-test.true w.in_default.ensures, o.invariant.1)
    ]

pub returns-clause-says : goal.returns-clause-says
returns-clause-says c = let a = c.args in let o = c.loop-j in listing_done a.s.now a.table.at a.table.count o.j o.lists o.invariant.0 c.loop-j-test.false
