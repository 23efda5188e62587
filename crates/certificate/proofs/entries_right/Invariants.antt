-- `certificate::entries_right` meets its contract: the entries before i pass. Assumes nothing.
use mathlib.Core.Path.{◌≡◌}
use mathlib.Core.Bool.{true}
use Rattle.certificate.specs.Entries.{all, entry_right}
use Rattle.certificate.proofs.entries_right.Given as goal

abbrev pub invariant-loop-i : goal.invariant-loop-i
invariant-loop-i l = all (entry_right l.mem l.base l.pieces) l.i ≡ true
