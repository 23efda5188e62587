-- `searching::find_from` meets its contract. The loop's invariant: the places from i on stand in scratch, but for those of the last byte. Assumes nothing.
use Prim.Native.Nat.{◌+◌}
use mathlib.Core.Path.{◌≡◌}
use lib.ListN.{get_or}
use Rattle.definitions.specs.Places.{sizes}
use Rattle.node_joining.specs.Found.{rooted, table_from}
use Rattle.node_joining.specs.Layout.{LaidOut, last_size}
use Rattle.searching.proofs.find_from.Given as goal

abbrev pub invariant-loop-i : goal.invariant-loop-i
invariant-loop-i l = LaidOut (rooted l.search.query.img.now) l.search.query.bytes.now l.i l.ends l.scratch × (get_or l.ends l.i 0 + last_size (rooted l.search.query.img.now) l.search.query.bytes.now ≡ l.count + sizes (table_from (rooted l.search.query.img.now) l.search.query.bytes.now l.i))
