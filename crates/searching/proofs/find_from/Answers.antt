-- `searching::find_from` meets its contract. The loop's invariant: the places from i on stand in scratch, but for those of the last byte. Assumes nothing.
use native.Mathlib.Omega.{arith}
use Prim.Native.Nat.{◌+◌, ◌-◌}
use mathlib.Core.Path.{◌≡◌}
use borrow.Author.Rules.{rules}
use Rattle.node_joining.specs.Found.{rooted}
use Rattle.end_places.proofs.Laying.{laid_at, laid_last, kept_last, all_over, all_kept}
use Rattle.searching.proofs.find_from.Goals as goal

pub loop-i-init : goal.loop-i-init
loop-i-init c =
    let args = c.args in
    (laid_last (rooted args.search.query.img.now) args.search.query.bytes.now args.ends.now args.scratch.now args.count c.requires.0 c.requires.1 c.requires.2, kept_last (rooted args.search.query.img.now) args.search.query.bytes.now args.ends.now args.count c.requires.0 c.requires.1)

pub find_end-requires : goal.find_end-requires
find_end-requires c =
    let turn = c.loop-i in
    (omega arith, laid_at turn.i (turn.i - 1 + 1) (omega arith) turn.invariant.0)

pub returns-in_err-ends : goal.returns-in_err-ends
returns-in_err-ends c =
    let turn = c.loop-i in
    rw c.from_residual.ensures (all_over _ _ _ c.args.count (turn.i - 1) turn.i (omega arith) (omega arith) turn.invariant.1 c.in_err-ends.ensures (search rules))

pub loop-i-preserved : goal.loop-i-preserved
loop-i-preserved c =
    let turn = c.loop-i in
    let found = c.in_ok-ends.ensures in
    (found.found.laid, all_kept _ _ _ c.args.count (turn.i - 1) turn.i (omega arith) (omega arith) turn.invariant.1 (omega (arith, turn.invariant.0.long)) found)

pub returns : goal.returns
returns c =
    let turn = c.loop-i in
    let none : turn.i ≡ 0 = omega arith in
    let laid = laid_at turn.i 0 none turn.invariant.0 in
    record { found = record { laid = laid; size = rw none at turn.invariant.1 } }
