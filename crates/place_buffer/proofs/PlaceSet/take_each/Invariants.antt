-- `PlaceSet::take_each` meets its contract: the locations so far are added, or one of them has no room. Assumes nothing.
use Rattle.std.specs.Prelude.{Some}
use Rattle.definitions.specs.Location.{locations_in}
use Rattle.place_buffer.specs.Buffer.{Taken}
use Rattle.place_buffer.proofs.PlaceSet.take_each.Given as goal

abbrev pub invariant-loop-i : goal.invariant-loop-i
invariant-loop-i l = Taken l.initial.self l.self (locations_in l.img l.i l.list.at) (Some tt)
