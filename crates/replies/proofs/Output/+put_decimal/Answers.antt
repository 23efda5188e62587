-- The proof of the cycle of calls {put_decimal}: the digits before the last are those of a tenth. The measure is the number. Assumes nothing.
use Prim.Native.Nat.{◌≤◌, ◌<◌}
use native.Mathlib.Omega.{arith}
use Rattle.replies.proofs.Writing.{writes_both, writes_same, one_digit, more_digits}
use Rattle.replies.proofs.Output.+put_decimal.Goals as goal
use Rattle.replies.proofs.Output.+put_decimal.Goals.{then-x-ge10, else-x-ge10}

pub returns : goal.returns
returns t c =
    let d = c.last_digit in
    elim c.if-x-ge10.branch [
      | then-x-ge10 w ↦
          let p = rw w.self-is at c.put_byte.ensures in
          let h : 10 ≤ c.args.x = omega arith in
          writes_same (more_digits c.args.x d.result h (omega arith) d.ensures) (writes_both w.put_decimal.ensures p)
      | else-x-ge10 w ↦
          let p = rw w.self-is at c.put_byte.ensures in
          let h : c.args.x < 10 = omega arith in
          writes_same (one_digit c.args.x d.result h d.ensures) p
    ]
