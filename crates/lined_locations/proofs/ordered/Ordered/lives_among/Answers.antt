-- `lined_locations::Ordered::lives_among` meets its contract: what is asked from the first on is asked from g on. Assumes nothing.
use Prim.Native.Nat.{ℕ}
use native.Mathlib.Omega.{arith}
use mathlib.Core.Path.{ap, ◌∙◌}
use Rattle.definitions.specs.Location.{Location}
use Rattle.location.specs.Plain.{plain}
use Rattle.lined_locations.specs.Line.{location_of}
use Rattle.lined_locations.proofs.Addresses.{turn, among_done, among_past, first, among_found, behind, further, among_on}
use Rattle.lined_locations.proofs.ordered.Ordered.lives_among.Goals as goal
use Rattle.lined_locations.proofs.ordered.Ordered.lives_among.Goals.{else-g-q-via-then-g-q+else-x-location, else-g-q-via-else-g-q}

abbrev address_of : Location → ℕ
address_of l = l.address

abbrev end_of : Location → ℕ
end_of l = l.destroyed

pub returns-then-end-b : goal.returns-then-end-b
returns-then-end-b c =
    let v = c.args.self in
    among_past v.line.count (location_of v.line) (plain c.args.x) c.args.end c.loop-g.g v.lined c.loop-g-test.true (omega (arith, ap address_of c.location-l.ensures)) ∙ c.loop-g.invariant.1

pub location-requires : goal.location-requires
location-requires c =
    let t = turn (plain c.args.x) c.args.self.lined c.loop-g-test.true c.location-l.ensures c.first_from-q.ensures in
    omega (arith, (first t).high)

pub returns-then-x-location : goal.returns-then-x-location
returns-then-x-location c =
    let t = turn (plain c.args.x) c.args.self.lined c.loop-g-test.true c.location-l.ensures c.first_from-q.ensures in
    among_found t c.args.end c.if-g-q.true c.if-end-b.false (omega (arith, c.if-x-location.true, ap end_of c.location.ensures)) ∙ c.loop-g.invariant.1

pub first_from-g-requires : goal.first_from-g-requires
first_from-g-requires c =
    (first (turn (plain c.args.x) c.args.self.lined c.loop-g-test.true c.location-l.ensures c.first_from-q.ensures)).high

pub loop-g-smaller : goal.loop-g-smaller
loop-g-smaller c =
    let t = turn (plain c.args.x) c.args.self.lined c.loop-g-test.true c.location-l.ensures c.first_from-q.ensures in
    omega (arith, t.inside, further t c.first_from-g.result c.first_from-g.ensures)

pub loop-g-preserved : goal.loop-g-preserved
loop-g-preserved c =
    let t = turn (plain c.args.x) c.args.self.lined c.loop-g-test.true c.location-l.ensures c.first_from-q.ensures in
    let p = c.first_from-g.result in (
      (behind t p c.first_from-g.ensures).high,
      among_on t p c.first_from-g.ensures c.args.end (λ h. elim c.else-g-q.branch [ else-g-q-via-then-g-q+else-x-location w ↦ omega (arith, w.if-x-location.false, ap end_of w.location.ensures) | else-g-q-via-else-g-q w ↦ absurd (omega (arith, w.if-g-q.false)) ]) ∙ c.loop-g.invariant.1,
    )

pub returns : goal.returns
returns c =
    let v = c.args.self.line in
    among_done v.count (location_of v) (plain c.args.x) c.args.end c.loop-g.g c.loop-g.invariant.0 c.loop-g-test.false ∙ c.loop-g.invariant.1
