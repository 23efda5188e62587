-- `end_places::find_places` meets its contract: path by path, what ends there is joined with the places behind it; the last path is the query. Assumes nothing.
use Prim.Native.Nat.{◌+◌, ◌-◌}
use lib.ListN.{take, drop}
use lib.Dec.{eqb}
use Rattle.node_joining.specs.Found.{rooted}
use Rattle.end_places.proofs.Progress.{Walked, Progress}
use Rattle.end_places.proofs.find_places.Given as goal

abbrev pub invariant-loop-j : goal.invariant-loop-j
invariant-loop-j l = Walked l.query.img.now (take (l.j - l.i) (drop l.i l.query.bytes.now)) l.n × Progress (eqb l.i 0) (rooted l.query.img.now) (drop l.i l.query.bytes.now) (l.j + 1 - l.i) l.initial.places l.places
