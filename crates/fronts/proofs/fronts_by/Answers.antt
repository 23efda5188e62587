-- `fronts::fronts_by` meets its contract: the fronts found, and then those of the fronts ahead, are all. Assumes nothing.
use Prim.Native.Nat.{◌+◌, ◌*◌, ◌<◌}
use native.Mathlib.Omega.{arith}
use mathlib.Core.Path.{refl, sym, ◌∙◌}
use Rattle.location_lists.specs.Lists.{emptied}
use Rattle.location_lists.proofs.Buffers.{same_then}
use Rattle.node_rule.proofs.TwoLists.{same_two}
use Rattle.fronts.proofs.MaskLaws.{absent}
use Rattle.fronts.proofs.NextFronts.{finding_start, finding_here, finding_none, finding_absent, finding_laid, finding_parts, finding_leads, finding_some, fronts_done, lists_done}
use Rattle.fronts.proofs.fronts_by.Goals as goal
use Rattle.fronts.proofs.fronts_by.Goals.{then-not-is_absent+in-Some, then-not-is_absent+in_default, else-not-is_absent}

pub loop-i-init : goal.loop-i-init
loop-i-init c =
    let a = c.args in
    rw c.clear.ensures
    (finding_start a.s.now a.byte (a.depth * 256) ((a.depth + 1) * 256) a.fronts.now a.count (emptied a.lists.now) refl c.requires.2, record { same_reference = refl; same_length = refl })

pub child_in-requires : goal.child_in-requires
child_in-requires c =
    let a = c.args in
    let o = c.loop-i in
    let r : a.depth * 256 + o.i < (a.depth + 1) * 256 = omega (arith, c.requires.0.is.few) in
    finding_here a.s.now a.byte (a.depth * 256) ((a.depth + 1) * 256) a.fronts.now a.count o.i o.fronts o.met o.lists o.invariant.0 c.loop-i-test.true r c.requires.0

pub node_at-child-requires : goal.node_at-child-requires
node_at-child-requires c =
    let a = c.args in
    let o = c.loop-i in
    let r : a.depth * 256 + o.i < (a.depth + 1) * 256 = omega (arith, c.requires.0.is.few) in
    finding_laid a.s.now a.byte (a.depth * 256) ((a.depth + 1) * 256) a.fronts.now a.count o.i o.fronts o.met o.lists o.invariant.0 c.loop-i-test.true r _ c.in-Some.ensures c.requires.0

pub mask_of-requires : goal.mask_of-requires
mask_of-requires c =
    let a = c.args in
    let o = c.loop-i in
    let n = c.node_at-child in
    let r : a.depth * 256 + o.i < (a.depth + 1) * 256 = omega (arith, c.requires.0.is.few) in
    finding_leads a.s.now a.byte (a.depth * 256) ((a.depth + 1) * 256) a.fronts.now a.count o.i o.fronts o.met o.lists o.invariant.0 c.loop-i-test.true r _ c.in-Some.ensures n.result n.ensures c.requires.0

pub add_front-requires : goal.add_front-requires
add_front-requires c =
    let a = c.args in
    let o = c.loop-i in
    let n = c.node_at-child in
    let r : a.depth * 256 + o.i < (a.depth + 1) * 256 = omega (arith, c.requires.0.is.few) in
    let p = (finding_parts a.s.now a.byte (a.depth * 256) ((a.depth + 1) * 256) a.fronts.now a.count o.i o.fronts o.met o.lists o.invariant.0 c.loop-i-test.true r _ c.in-Some.ensures n.result n.ensures c.requires.0).is in
    (omega (arith, c.requires.0.is.few, o.invariant.0.met_few, o.invariant.0.few, o.invariant.0.size), omega (arith, p.chunks_in), omega (arith, p.prefixes_in))

pub loop-i-preserved : goal.loop-i-preserved
loop-i-preserved c =
    let a = c.args in
    let o = c.loop-i in
    let l = c.loop-i-test.true in
    let r : a.depth * 256 + o.i < (a.depth + 1) * 256 = omega (arith, c.requires.0.is.few) in
    elim c.if-not-is_absent.branch [
      | then-not-is_absent+in-Some w ↦
          let n = w.node_at-child in
          let m = w.mask_of in
          rw (w.fronts-is, w.met-is, w.lists-is ∙ w.add_front.ensures) (
            finding_some a.s.now a.byte (a.depth * 256) ((a.depth + 1) * 256) a.fronts.now a.count o.i o.fronts o.met o.lists o.invariant.0 l r _ w.in-Some.ensures n.result n.ensures (record { table = n.result.table; mask = m.result }) refl c.requires.0 m.ensures
                (omega (arith, c.requires.0.is.few, o.invariant.0.met_few, o.invariant.0.kept.same_length)),
            same_then o.invariant.1 (same_two o.lists n.result.chunks n.result.prefixes),
          )
      | then-not-is_absent+in_default w ↦
          rw (w.fronts-is, w.met-is, w.lists-is) (finding_none a.s.now a.byte (a.depth * 256) ((a.depth + 1) * 256) a.fronts.now a.count o.i o.fronts o.met o.lists o.invariant.0 l r w.in_default.ensures, o.invariant.1)
      | else-not-is_absent w ↦
          rw (w.fronts-is, w.met-is, w.lists-is)
          (finding_absent a.s.now a.byte (a.depth * 256) ((a.depth + 1) * 256) a.fronts.now a.count o.i o.fronts o.met o.lists o.invariant.0 l r (absent _ _ (sym c.is_absent.ensures ∙ w.if-not-is_absent.false)), o.invariant.1)
    ]

pub returns-clause-says : goal.returns-clause-says
returns-clause-says c =
    let a = c.args in
    let o = c.loop-i in
    let l = c.loop-i-test.false in
    record {
      kept = o.invariant.0.kept;
      valid = o.invariant.0.valid;
      are = fronts_done a.s.now a.byte (a.depth * 256) ((a.depth + 1) * 256) a.fronts.now a.count o.i o.fronts o.met o.lists o.invariant.0 l;
      lists_are = lists_done a.s.now a.byte (a.depth * 256) ((a.depth + 1) * 256) a.fronts.now a.count o.i o.fronts o.met o.lists o.invariant.0 l;
    }
