-- `certificate::Certified::group_end` meets its contract: those from g to e - 1 are at one address. Assumes nothing.
use Prim.Native.Nat.{ℕ}
use native.Mathlib.Omega.{arith}
use mathlib.Core.Path.{◌≡◌, ap}
use borrow.Author.Tests.{ltb-false}
use Rattle.definitions.specs.Location.{Location}
use Rattle.lined_locations.specs.Line.{location_of}
use Rattle.certificate.proofs.Groups.{one_more}
use Rattle.certificate.proofs.certified.Certified.group_end.Goals as goal

abbrev address-of : Location → ℕ
address-of l = l.address

pub loop-e-preserved : goal.loop-e-preserved
loop-e-preserved c =
    let l = location_of c.args.self.entries.line in
    let up = (c.args.self.entries.lined.ahead c.args.g c.loop-e.e (omega arith) c.loop-e-test.true).by_address in
    one_more (λ (k : ℕ). (l k).address ≡ (l c.args.g).address) c.args.g c.loop-e.e c.loop-e.invariant (omega (arith, ltb-false, up, ap address-of c.location-l.ensures, ap address-of c.location-x.ensures))
