-- `certificate::Certified::none_inside` meets its contract: inside the pieces of the entries before i none lives. Assumes nothing.
use Prim.Native.Nat.{◌-◌, ◌≤◌}
use mathlib.Core.Path.{◌≡◌}
use mathlib.Core.Bool.{true, not}
use Rattle.lined_locations.specs.Line.{location_of}
use Rattle.certificate.specs.Entries.{all, piece_end, lives_inside}
use Rattle.certificate.proofs.certified.Certified.none_inside.Given as goal

abbrev pub invariant-loop-i : goal.invariant-loop-i
invariant-loop-i l =
    let v = l.self.entries.line in
    (l.i ≤ v.count) × (all (λ k. not (lives_inside (location_of v) (piece_end v) v.count k)) l.i ≡ true)

abbrev pub decreases-loop-i : goal.decreases-loop-i
decreases-loop-i l = l.self.entries.line.count - l.i
