-- `row_replies::put_rows` meets its contract: the rows before index i are written. Assumes nothing.
use Prim.Native.Nat.{◌+◌, ◌*◌, ◌≤◌}
use Rattle.replies.specs.Outputs.{Writes}
use Rattle.row_replies.proofs.PlaceReplies.{places_bytes}
use Rattle.row_replies.proofs.put_rows.Given as goal

abbrev pub invariant-loop-i : goal.invariant-loop-i
invariant-loop-i l = Writes l.initial.out (places_bytes l.scratch l.i) l.out × (l.out.at ≤ l.initial.out.at + l.i * 71)
