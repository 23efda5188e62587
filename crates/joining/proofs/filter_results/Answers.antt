-- `joining::filter_results` meets its contract: the places so far are joined, and each is read as it was at entry. Assumes nothing.
use native.Mathlib.Omega.{arith}
use Prim.Native.Nat.{ℕ}
use mathlib.Core.Path.{refl, sym, ap, ◌∙◌}
use Rattle.location.specs.Plain.{plain}
use Rattle.joining.specs.Lists.{listed}
use Rattle.joining.specs.Below.{below_count}
use Rattle.joining.proofs.Joining.{place_low, place_joined, none_joined_to, joined_to_key}
use Rattle.joining.proofs.Lists.{each_none, each_start, each_next, each_refused, each_done}
use Rattle.joining.proofs.filter_results.Goals as goal

pub returns-then-list-eq0 : goal.returns-then-list-eq0
returns-then-list-eq0 c = each_none _ _ _ _ _ c.if-places.false c.if-list-eq0.true

pub loop-t-init : goal.loop-t-init
loop-t-init c =
    let args = c.args in
    each_start args.k (listed args.img.now args.list) args.behind.from _ c.if-places.false refl

pub loop-t-preserved-in_default : goal.loop-t-preserved-in_default
loop-t-preserved-in_default c =
    let args = c.args in
    each_next args.k (listed args.img.now args.list) args.behind.from _ c.loop-t.auto.t (omega arith) c.loop-t.invariant c.location-m.ensures
    (place_low args.k (listed args.img.now args.list) (plain c.location-m.result) c.loop-t.invariant.set.live (omega (arith, c.in_default.ensures)))

pub loop-t-preserved-in_default-first_at : goal.loop-t-preserved-in_default-first_at
loop-t-preserved-in_default-first_at c =
    let args = c.args in
    let w = joined_to_key _ _ c.in-Some.ensures.1 (none_joined_to (plain c.location-m.result) c.loop-t.invariant.set.live c.in_default-first_at.ensures) in
    each_next args.k (listed args.img.now args.list) args.behind.from _ c.loop-t.auto.t (omega arith) c.loop-t.invariant c.location-m.ensures
    (place_joined args.k (listed args.img.now args.list) (plain c.location-m.result) c.in-Some.ensures.0 w)

pub join_from-requires : goal.join_from-requires
join_from-requires c =
    let f = c.in-Some-first_at.ensures in
    (c.requires.0, record { within = f.within; has = refl; below = f.below ∙ ap (λ (key : ℕ). below_count key (listed c.args.img.now c.args.list)) (sym f.has) })

pub loop-t-preserved : goal.loop-t-preserved
loop-t-preserved c =
    let args = c.args in
    let w = joined_to_key _ _ (c.in-Some-first_at.ensures.has ∙ c.in-Some.ensures.1) c.in_ok-join_from.ensures in
    each_next args.k (listed args.img.now args.list) args.behind.from _ c.loop-t.auto.t (omega arith) c.loop-t.invariant c.location-m.ensures
    (place_joined args.k (listed args.img.now args.list) (plain c.location-m.result) c.in-Some.ensures.0 w)

pub returns-in_err-join_from : goal.returns-in_err-join_from
returns-in_err-join_from c =
    let args = c.args in
    let w = joined_to_key _ _ (c.in-Some-first_at.ensures.has ∙ c.in-Some.ensures.1) c.in_err-join_from.ensures in
    let t = each_next args.k (listed args.img.now args.list) args.behind.from _ c.loop-t.auto.t (omega arith) c.loop-t.invariant c.location-m.ensures
    (place_joined args.k (listed args.img.now args.list) (plain c.location-m.result) c.in-Some.ensures.0 w) in
    rw c.from_residual.ensures (each_refused args.k (listed args.img.now args.list) args.behind.from _ _ (omega arith) (omega arith) t)

pub returns : goal.returns
returns c =
    let args = c.args in
    each_done args.k (listed args.img.now args.list) args.behind.from _ _ (omega arith) c.loop-t-test.false c.loop-t.invariant
