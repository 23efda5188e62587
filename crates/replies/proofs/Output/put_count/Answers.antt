-- `replies::Output::put_count` meets its contract: three texts, one behind the other. Assumes nothing.
use native.Mathlib.Omega.{arith}
use Rattle.replies.proofs.Writing.{writes_both, writes_long, decimal_room}
use Rattle.replies.proofs.Output.put_count.Goals as goal

pub put_decimal-requires : goal.put_decimal-requires
put_decimal-requires c = omega (arith, c.put_text.ensures.written.next, writes_long c.put_text.ensures)

pub put_text-requires-2 : goal.put_text-requires-2
put_text-requires-2 c =
    omega (arith, c.put_text.ensures.written.next, writes_long c.put_text.ensures, decimal_room c.args.n c.put_decimal.ensures, writes_long c.put_decimal.ensures)

pub returns : goal.returns
returns c = writes_both (writes_both c.put_text.ensures c.put_decimal.ensures) c.put_text-2.ensures
