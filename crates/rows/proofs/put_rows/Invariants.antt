-- `rows::put_rows`: i rows are handed over, and the others are as they were lent.
use Rattle.std.proofs.Common.{◌≡◌}
use Rattle.rows.proofs.Copied.{copied}
use Rattle.rows.proofs.put_rows.Given as goal

abbrev pub invariant-loop-i : goal.invariant-loop-i
invariant-loop-i l = l.rows ≡ copied l.fn.rows l.from l.i
