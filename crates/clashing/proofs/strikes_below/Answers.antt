-- `clashing::strikes_below` meets its contract: what is asked from the first on is asked from g on. Assumes nothing.
use Prim.Native.Nat.{ℕ}
use native.Mathlib.Omega.{arith}
use mathlib.Core.Path.{sym, ◌∙◌}
use borrow.Author.Tests.{ltb-true, ltb-false}
use Rattle.definitions.specs.Location.{Location}
use Rattle.location.specs.Plain.{plain}
use Rattle.lined_locations.proofs.Addresses.{turn, first, further}
use Rattle.clashing.proofs.Reaching.{reach_done}
use Rattle.clashing.proofs.Passing.{turn_address, turn_found, next_inside, turn_on}
use Rattle.clashing.proofs.strikes_below.Goals as goal

abbrev address_of : Location → ℕ
address_of l = l.address

pub reaches-requires : goal.reaches-requires
reaches-requires c =
    let a = c.args in
    let t = turn (plain a.x) a.v.entries.lined (omega (arith, ltb-true, c.requires.high)) c.location-l.ensures c.first_from-q.ensures in
    turn_address a.v.entries.line (plain a.x) t

pub returns-then-reaches : goal.returns-then-reaches
returns-then-reaches c =
    let a = c.args in
    let at = c.loop-g in
    let t = turn (plain a.x) a.v.entries.lined (omega (arith, ltb-true, c.requires.high)) c.location-l.ensures c.first_from-q.ensures in
    turn_found a.v.entries.line (plain a.x) t a.from a.upto c.requires at.invariant.0 (omega (arith, ltb-true)) (sym c.if-reaches.true ∙ c.reaches.ensures) ∙ at.invariant.2

-- the address is below that of x, which is a number of 64 bits
pub first_from-g-requires : goal.first_from-g-requires
first_from-g-requires c =
    let a = c.args in
    let t = turn (plain a.x) a.v.entries.lined (omega (arith, ltb-true, c.requires.high)) c.location-l.ensures c.first_from-q.ensures in
    (first t).high

pub loop-g-smaller : goal.loop-g-smaller
loop-g-smaller c =
    let a = c.args in
    let t = turn (plain a.x) a.v.entries.lined (omega (arith, ltb-true, c.requires.high)) c.location-l.ensures c.first_from-q.ensures in
    omega (arith, ltb-true, further t c.first_from-g.result c.first_from-g.ensures)

pub loop-g-preserved : goal.loop-g-preserved
loop-g-preserved c =
    let a = c.args in
    let at = c.loop-g in
    let t = turn (plain a.x) a.v.entries.lined (omega (arith, ltb-true, c.requires.high)) c.location-l.ensures c.first_from-q.ensures in
    let p = c.first_from-g.result in (
      omega (arith, at.invariant.0, further t p c.first_from-g.ensures),
      next_inside a.v.entries.line (plain a.x) t a.from a.upto c.requires at.invariant.0 (omega (arith, ltb-true)) p c.first_from-g.ensures,
      turn_on a.v.entries.line (plain a.x) t a.from a.upto c.requires at.invariant.0 (omega (arith, ltb-true)) p c.first_from-g.ensures (sym c.if-reaches.false ∙ c.reaches.ensures) ∙ at.invariant.2,
    )

pub returns : goal.returns
returns c =
    let at = c.loop-g in
    let a = c.args in
    reach_done a.v.entries.line (plain a.x) at.g a.upto at.invariant.1 (omega (arith, ltb-false)) ∙ at.invariant.2
