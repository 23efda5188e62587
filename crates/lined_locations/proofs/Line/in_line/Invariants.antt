-- `lined_locations::Line::in_line` meets its contract: the locations before i are in line. Assumes nothing.
use Prim.Native.Nat.{◌-◌, ◌≤◌, max}
use mathlib.Core.Path.{◌≡◌}
use mathlib.Core.Bool.{true}
use Rattle.conflicts.specs.Lined.{in_line}
use Rattle.lined_locations.specs.Line.{location_of}
use Rattle.lined_locations.proofs.Line.in_line.Given as goal

abbrev pub invariant-loop-i : goal.invariant-loop-i
invariant-loop-i l = (l.i ≤ max 1 l.self.count) × (true ≡ in_line (location_of l.self) (l.i - 1))
