-- The ways out of the checks of a block behind those of its length, its life and its address. Assumes nothing.
use Prim.Native.Nat.{ℕ, ◌+◌, ◌≤◌, ◌<◌}
use mathlib.Core.Path.{◌≡◌}
use mathlib.Core.Bool.{Bool, true, false}
use borrow.Author.Tests.{le-ltb, lt-leb}
use Rattle.definitions.specs.Location.{Location}
use Rattle.definitions.specs.Causes.{first_cause}
use Rattle.definitions.specs.Calls.{Capacity, last_number, capacity_checks, memory_checks}
use Rattle.memory_header.specs.Layout.{Header}
use Rattle.judging.specs.Judged.{Verdict, refused, verdict}

-- by its length, its life and its address, then by what it clashes with
module _ (c : Capacity) (clashes : Bool) (nodes entries n : ℕ) (l : Location) (g : Header) (a : n ≤ 4096) (b : l.created < l.destroyed) (d : l.address + n ≤ last_number) where
  abbrev answer : Verdict
  answer = verdict (first_cause (memory_checks c clashes nodes entries n l)) g

  pub refused_18 : clashes ≡ true → refused 18 ≡ answer
  refused_18 e = rw (le-ltb 4096 n a, lt-leb l.destroyed l.created b, le-ltb last_number (l.address + n) d, e)

  pub charge_decides : clashes ≡ false → verdict (first_cause (capacity_checks c nodes entries)) g ≡ answer
  charge_decides e = rw (le-ltb 4096 n a, lt-leb l.destroyed l.created b, le-ltb last_number (l.address + n) d, e)
