-- `location_lists::is_ascending` meets its contract: what is left ascends just where all do. Assumes nothing.
use Prim.Native.Nat.{◌-◌}
use mathlib.Core.Path.{◌≡◌}
use Rattle.trie.specs.Test.{is_ascending}
use Rattle.location_lists.specs.Lists.{held}
use Rattle.location_lists.proofs.Single.{rest}
use Rattle.location_lists.proofs.is_ascending.Given as goal

abbrev pub invariant-loop-i : goal.invariant-loop-i
invariant-loop-i l = is_ascending (rest l.s l.list.at l.list.count (l.i - 1)) ≡ is_ascending (held l.s l.list)
