-- `ordering::shift` meets its contract: the entries from number k on are moved, those before it are as they were. Assumes nothing.
use Rattle.std.proofs.Common.{◌≡◌, ◌≤◌, length}
use Rattle.ordering.proofs.Writes.{moved}
use Rattle.ordering.proofs.shift.Given as goal

abbrev pub invariant-loop-k : goal.invariant-loop-k
invariant-loop-k l = (l.from ≤ l.k) × (length l.mem ≡ length l.initial.mem) × (l.mem ≡ moved l.initial.mem l.base l.k l.upto l.by)
