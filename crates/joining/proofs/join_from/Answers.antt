-- `joining::join_from` meets its contract: those so far are joined, and behind one above the key none has it. Assumes nothing.
use native.Mathlib.Omega.{arith}
use mathlib.Core.Path.{ap}
use Rattle.definitions.specs.Location.{Location}
use Rattle.location.specs.Plain.{plain}
use Rattle.joining.proofs.Joining.{one_life, one_nothing, key_start, key_stop, key_refused, key_next, key_done, parted_at, joined_to_key}
use Rattle.joining.proofs.join_from.Goals.{in-Some+in_ok-place, in_default}
use Rattle.joining.proofs.join_from.Goals as goal

pub loop-i-init : goal.loop-i-init
loop-i-init c =
    let parts = parted_at c.requires.0.sorted c.requires.1 (ap (λ (m : Location). m.address) c.location_in-key.ensures) in
    key_start _ _ _ _ _ parts (plain c.args.x) c.if-places.false

pub returns-then-key-m : goal.returns-then-key-m
returns-then-key-m c =
    let same = ap (λ (m : Location). m.address) c.location_in-key.ensures in
    let parts = parted_at c.requires.0.sorted c.requires.1 same in
    joined_to_key _ _ same (key_stop _ _ _ _ _ parts (plain c.args.x) _ c.loop-i-test.true c.requires.0.sorted c.location_in-m.ensures c.if-key-m.true c.loop-i.invariant)

pub returns-in_err-place : goal.returns-in_err-place
returns-in_err-place c =
    let same = ap (λ (m : Location). m.address) c.location_in-key.ensures in
    let parts = parted_at c.requires.0.sorted c.requires.1 same in
    let one = one_life (plain c.args.x) (plain c.location_in-m.result) _ c.in-Some.ensures c.in_err-place.ensures in
    let t = key_next _ _ _ _ _ parts (plain c.args.x) _ c.loop-i.auto.i c.loop-i-test.true c.location_in-m.ensures c.if-key-m.false c.loop-i.invariant one in
    rw c.from_residual.ensures (joined_to_key _ _ same (key_refused _ _ _ _ _ parts (plain c.args.x) _ (omega arith) t))

pub loop-i-preserved : goal.loop-i-preserved
loop-i-preserved c =
    let parts = parted_at c.requires.0.sorted c.requires.1 (ap (λ (m : Location). m.address) c.location_in-key.ensures) in
    let x = plain c.args.x in
    let m = plain c.location_in-m.result in
    elim c.match-overlap.branch [
      | in-Some+in_ok-place w ↦ rw (w.places-is) (key_next _ _ _ _ _ parts x _ c.loop-i.auto.i c.loop-i-test.true c.location_in-m.ensures c.if-key-m.false c.loop-i.invariant (one_life x m _ w.in-Some.ensures w.in_ok-place.ensures))
      | in_default w ↦ rw (w.places-is) (key_next _ _ _ _ _ parts x _ c.loop-i.auto.i c.loop-i-test.true c.location_in-m.ensures c.if-key-m.false c.loop-i.invariant (one_nothing x m c.loop-i.invariant.set.live w.in_default.ensures))
    ]

pub returns : goal.returns
returns c =
    let same = ap (λ (m : Location). m.address) c.location_in-key.ensures in
    let parts = parted_at c.requires.0.sorted c.requires.1 same in
    joined_to_key _ _ same (key_done _ _ _ _ _ parts (plain c.args.x) _ (omega (arith, parts.le)) c.loop-i-test.false c.loop-i.invariant)
