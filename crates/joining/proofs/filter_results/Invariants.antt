-- `joining::filter_results` meets its contract: the places so far are joined, and each is read as it was at entry. Assumes nothing.
use Prim.Native.Nat.{◌-◌, ◌*◌}
use Rattle.std.specs.Prelude.{Some}
use Rattle.definitions.specs.Location.{locations_in}
use Rattle.trie.specs.Find.{joins_each}
use Rattle.place_buffer.specs.Buffer.{Taken}
use Rattle.joining.specs.Lists.{listed}
use Rattle.joining.proofs.filter_results.Given as goal

abbrev pub invariant-loop-t : goal.invariant-loop-t
invariant-loop-t l = Taken l.initial.places l.places (joins_each l.k (listed l.img l.list) (locations_in l.initial.places.scratch.now (l.t - l.fn.behind.from) (l.fn.behind.from * 24))) (Some tt)
