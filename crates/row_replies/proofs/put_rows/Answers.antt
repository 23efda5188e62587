-- `row_replies::put_rows` meets its contract: the rows before index i are written. Assumes nothing.
use Prim.Native.Nat.{◌*◌}
use native.Mathlib.Omega.{arith}
use Rattle.definitions.specs.Location.{location_at}
use Rattle.replies.proofs.Writing.{writes_both, writes_same, writes_long}
use Rattle.row_replies.proofs.PlaceReplies.{no_places, place_more, places_end, length_place, length_end}
use Rattle.row_replies.proofs.put_rows.Goals as goal

pub loop-i-init : goal.loop-i-init
loop-i-init c = (no_places c.args.scratch.now c.args.out.now, omega arith)

pub put_row-requires : goal.put_row-requires
put_row-requires c =
    let l = c.loop-i in
    (omega (arith, l.invariant.1, writes_long l.invariant.0), omega arith)

pub loop-i-preserved : goal.loop-i-preserved
loop-i-preserved c =
    let s = c.args.scratch.now in
    let l = c.loop-i in
    let w = c.put_row.ensures in
    (writes_same (place_more s l.i) (writes_both l.invariant.0 w), omega (arith, l.invariant.1, w.written.next, length_place (location_at s (l.i * 24))))

pub put_end-requires : goal.put_end-requires
put_end-requires c =
    let l = c.loop-i in
    omega (arith, l.invariant.1, writes_long l.invariant.0)

pub returns : goal.returns
returns c =
    let l = c.loop-i in
    let w = c.put_end.ensures in
    record {
      written = writes_same (places_end c.args.scratch.now l.i c.args.n (omega arith)) (writes_both l.invariant.0 w);
      upper_bound = omega (arith, l.invariant.1, w.written.next, length_end c.args.n);
    }
