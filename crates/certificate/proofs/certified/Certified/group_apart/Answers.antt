-- `certificate::Certified::group_apart` meets its contract: none of the entries before g is met. Assumes nothing.
use Prim.Native.Nat.{ℕ}
use native.Mathlib.Omega.{arith}
use mathlib.Core.Path.{ap}
use borrow.Author.Tests.{leb-true}
use Rattle.definitions.specs.Location.{Location}
use Rattle.lined_locations.specs.Line.{location_of}
use Rattle.certificate.specs.Entries.{piece_end}
use Rattle.certificate.proofs.Groups.{group_past}
use Rattle.certificate.proofs.certified.Certified.group_apart.Goals as goal

abbrev address-of : Location → ℕ
address-of l = l.address

pub returns-then-end-l : goal.returns-then-end-l
returns-then-end-l c =
    let a = c.args in
    let s = a.self.entries in
    let v = s.line in
    group_past v.count (location_of v) s.lined (piece_end v) a.i a.e c.loop-g.g c.loop-g.invariant.2
    c.reach-end.result c.reach-end.ensures (omega (arith, leb-true, ap address-of c.location-l.ensures))
