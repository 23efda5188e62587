-- `image::read_empty` meets its contract. Assumes nothing.
use Prim.Native.Nat.{◌*◌, ◌+◌, ◌-◌, ◌≤◌}
use mathlib.Core.Path.{◌≡◌}
use lib.ListN.{length}
use Rattle.image_format.specs.Reading.{read_counts}
use Rattle.image.proofs.read_empty.Given as goal

abbrev pub invariant-loop-i : goal.invariant-loop-i
invariant-loop-i l = (1 + l.i * 8 ≤ length l.s) × (read_counts l.s (3 - l.i) (1 + l.i * 8) ≡ read_counts l.s 3 1)
