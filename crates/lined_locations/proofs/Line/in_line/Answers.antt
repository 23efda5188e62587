-- `lined_locations::Line::in_line` meets its contract: the locations before i are in line. Assumes nothing.
use native.Mathlib.Omega.{arith}
use mathlib.Core.Path.{ap}
use mathlib.Core.Bool.{not}
use Rattle.lined_locations.specs.Line.{location_of}
use Rattle.lined_locations.proofs.Neighbours.{line_start, line_next, line_refused}
use Rattle.lined_locations.proofs.Line.in_line.Goals as goal

pub loop-i-init : goal.loop-i-init
loop-i-init c = (omega arith, line_start (location_of c.args.self))

pub returns-then-not-ahead : goal.returns-then-not-ahead
returns-then-not-ahead c =
    line_refused (location_of c.args.self) c.loop-i.i c.ahead.result _ _ c.ahead.ensures c.location.ensures c.location-in-loop-i.ensures c.loop-i.auto.i c.args.self.count c.loop-i-test.true (ap not c.if-not-ahead.true)

pub loop-i-preserved : goal.loop-i-preserved
loop-i-preserved c = (
  omega arith,
  line_next (location_of c.args.self) c.loop-i.i c.ahead.result _ _ c.ahead.ensures c.location.ensures c.location-in-loop-i.ensures c.loop-i.auto.i (ap not c.if-not-ahead.false) c.loop-i.invariant.1,
)
