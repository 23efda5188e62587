-- `lines::line_end` meets its contract: where the line ends is the same from each byte of it on. Assumes nothing.
use mathlib.Core.Path.{◌≡◌}
use Rattle.lines.specs.Cut.{line_end}
use Rattle.lines.proofs.line_end.Given as goal

abbrev pub invariant-loop-i : goal.invariant-loop-i
invariant-loop-i l = line_end l.input l.i ≡ line_end l.input l.at
