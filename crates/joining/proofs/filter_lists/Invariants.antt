-- `joining::filter_lists` meets its contract: the locations so far are joined, or one has no room. Assumes nothing.
use Rattle.std.specs.Prelude.{Some}
use Rattle.definitions.specs.Location.{locations_in}
use Rattle.trie.specs.Find.{joins_each}
use Rattle.place_buffer.specs.Buffer.{Taken}
use Rattle.joining.specs.Lists.{listed}
use Rattle.joining.proofs.filter_lists.Given as goal

abbrev pub invariant-loop-u : goal.invariant-loop-u
invariant-loop-u l = Taken l.initial.places l.places (joins_each l.k (locations_in l.img l.u l.list.at) (listed l.img l.to)) (Some tt)
