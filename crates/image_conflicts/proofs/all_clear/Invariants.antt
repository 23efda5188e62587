-- `image_conflicts::all_clear` meets its contract: one chunk after another. Assumes nothing.
use mathlib.Core.Path.{◌≡◌}
use Rattle.location_lists.specs.Lists.{held}
use Rattle.lined_locations.specs.Line.{location_of}
use Rattle.image_conflicts.specs.Due.{all_clear}
use Rattle.image_conflicts.proofs.Chunks.{clear_from}
use Rattle.image_conflicts.proofs.all_clear.Given as goal

abbrev pub invariant-loop-j : goal.invariant-loop-j
invariant-loop-j l = clear_from (location_of l.v.line) l.v.line.count l.m l.v.line.bytes.now l.list.at l.list.count l.j ≡ all_clear (location_of l.v.line) l.v.line.count l.m (held l.v.line.bytes.now l.list)
