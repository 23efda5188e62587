-- `replies::Output::put_place` meets its contract: five texts, one behind the other. Assumes nothing.
use native.Mathlib.Omega.{arith}
use Rattle.definitions.specs.Program.{decimal}
use Rattle.replies.proofs.Writing.{writes_both, writes_same, writes_long, decimal_room, place_grouped}
use Rattle.replies.proofs.Output.put_place.Goals as goal

pub put_text-requires-2 : goal.put_text-requires-2
put_text-requires-2 c =
    let t = c.put_text.ensures in
    let d = c.put_decimal.ensures in
    omega (arith, t.written.next, writes_long t, decimal_room c.args.address d, writes_long d)

pub put_decimal-requires-2 : goal.put_decimal-requires-2
put_decimal-requires-2 c =
    let t = c.put_text.ensures in
    let d = c.put_decimal.ensures in
    let u = c.put_text-2.ensures in
    omega (arith, t.written.next, writes_long t, decimal_room c.args.address d, writes_long d, u.written.next, writes_long u)

pub put_count-requires : goal.put_count-requires
put_count-requires c =
    let t = c.put_text.ensures in
    let d = c.put_decimal.ensures in
    let u = c.put_text-2.ensures in
    let e = c.put_decimal-2.ensures in
    omega (
      arith,
      t.written.next,
      writes_long t,
      decimal_room c.args.address d,
      writes_long d,
      u.written.next,
      writes_long u,
      decimal_room c.args.created e,
      writes_long e,
    )

pub returns : goal.returns
returns c =
    let s = c.args in
    writes_same (place_grouped (decimal s.address) (decimal s.created) (decimal s.destroyed))
    (writes_both
    (writes_both (writes_both (writes_both c.put_text.ensures c.put_decimal.ensures) c.put_text-2.ensures) c.put_decimal-2.ensures)
    c.put_count.ensures)
