-- `place_lookup::count_both` meets its contract: the places of the second list so far are counted with those of the first. Assumes nothing.
use Rattle.std.proofs.Common.{◌≡◌, ◌+◌, ◌≤◌, ◌++◌, length}
use Rattle.definitions.specs.Location.{normal, locations_in}
use Rattle.place_lookup.proofs.count_both.Given as goal

abbrev pub invariant-loop-j : goal.invariant-loop-j
invariant-loop-j l = (l.count ≤ l.n + l.j) × (l.count ≡ length (normal (locations_in l.img l.j l.b ++ locations_in l.img l.n l.a)))
