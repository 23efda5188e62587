-- `joining::filter_lists` meets its contract: the locations so far are joined, or one has no room. Assumes nothing.
use native.Mathlib.Omega.{arith}
use Prim.Native.Nat.{ℕ}
use mathlib.Core.Path.{refl, sym, ap, ◌∙◌}
use Rattle.location.specs.Plain.{plain}
use Rattle.joining.specs.Lists.{listed}
use Rattle.joining.specs.Below.{below_count}
use Rattle.joining.proofs.Joining.{location_far, none_joined_to, joined_to_key}
use Rattle.joining.proofs.Lists.{lists_start, lists_refused, lists_next}
use Rattle.joining.proofs.filter_lists.Goals as goal

pub loop-u-init : goal.loop-u-init
loop-u-init c =
    let args = c.args in
    lists_start args.k args.img.now args.list.at (listed args.img.now args.to) c.if-places.false

pub loop-u-preserved-in_default : goal.loop-u-preserved-in_default
loop-u-preserved-in_default c =
    let args = c.args in
    lists_next args.k args.img.now args.list.at (listed args.img.now args.to) _ c.loop-u.invariant c.location_in-l.ensures
    (location_far _ _ _ (plain c.location_in-l.result) c.loop-u.invariant.set.live _ (λ j. omega (arith, c.type_inv.img j)) (omega (arith, c.in_default.ensures)))

pub loop-u-preserved-in_default-first_at : goal.loop-u-preserved-in_default-first_at
loop-u-preserved-in_default-first_at c =
    let args = c.args in
    lists_next args.k args.img.now args.list.at (listed args.img.now args.to) _ c.loop-u.invariant c.location_in-l.ensures
    (joined_to_key _ _ c.in-Some.ensures.1 (none_joined_to (plain c.location_in-l.result) c.loop-u.invariant.set.live c.in_default-first_at.ensures))

pub join_from-requires : goal.join_from-requires
join_from-requires c =
    let f = c.in-Some-first_at.ensures in
    (c.requires.1, record { within = f.within; has = refl; below = f.below ∙ ap (λ (key : ℕ). below_count key (listed c.args.img.now c.args.to)) (sym f.has) })

pub loop-u-preserved : goal.loop-u-preserved
loop-u-preserved c =
    let args = c.args in
    lists_next args.k args.img.now args.list.at (listed args.img.now args.to) _ c.loop-u.invariant c.location_in-l.ensures
    (joined_to_key _ _ (c.in-Some-first_at.ensures.has ∙ c.in-Some.ensures.1) c.in_ok-join_from.ensures)

pub returns-in_err-join_from : goal.returns-in_err-join_from
returns-in_err-join_from c =
    let args = c.args in
    let t = lists_next args.k args.img.now args.list.at (listed args.img.now args.to) _ c.loop-u.invariant c.location_in-l.ensures (joined_to_key _ _ (c.in-Some-first_at.ensures.has ∙ c.in-Some.ensures.1) c.in_err-join_from.ensures) in
    rw c.from_residual.ensures (lists_refused args.k args.img.now args.list.at (listed args.img.now args.to) _ _ (omega arith) t)
