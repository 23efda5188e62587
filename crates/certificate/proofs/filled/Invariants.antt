-- `certificate::filled` meets its contract: the pieces before k are counted. Assumes nothing.
use Prim.Native.Nat.{◌≤◌}
use mathlib.Core.Path.{◌≡◌}
use Rattle.conflicts.specs.Promises.{filled}
use Rattle.index_memory.specs.Log.{log_in}
use Rattle.certificate.proofs.filled.Given as goal

abbrev pub invariant-loop-k : goal.invariant-loop-k
invariant-loop-k l = (l.count ≤ l.k) × (l.count ≡ filled (log_in l.mem l.k 64))
