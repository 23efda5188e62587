-- `location_lists::all_ended` meets its contract: what is left is at its ends just where all lists are. Assumes nothing.
use Prim.Native.Nat.{◌-◌}
use lib.ListN.{length}
use mathlib.Core.Path.{◌≡◌}
use Rattle.location_lists.specs.Steps.{ended_from}
use Rattle.location_lists.proofs.all_ended.Given as goal

abbrev pub invariant-loop-list : goal.invariant-loop-list
invariant-loop-list l = ended_from l.lists (length l.lists - l.list-index) l.list-index ≡ ended_from l.lists (length l.lists) 0
