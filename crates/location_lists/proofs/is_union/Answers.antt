-- `location_lists::is_union` meets its contract: the walk over what is left of the list and of the lists says what the whole walk does. Assumes nothing.
use Prim.Native.Nat.{ℕ, ◌-◌, ◌≤◌}
use native.Mathlib.Omega.{arith}
use mathlib.Core.Path.{◌≡◌, ap, ◌∙◌}
use Rattle.location.specs.Plain.{plain}
use Rattle.trie.specs.Test.{moved_back}
use Rattle.location_lists.proofs.Walk.{walking_start, walking_low, walking_lone, walking_again, walking_done}
use Rattle.location_lists.proofs.is_union.Goals as goal

pub loop-i-init : goal.loop-i-init
loop-i-init c = let a = c.args in walking_start a.s.now a.list a.back a.lists.now c.requires.1

pub returns-in_default : goal.returns-in_default
returns-in_default c =
    let a = c.args in
    let o = c.loop-i in
    let l = c.location_at-l in
    let low : a.back ≤ l.result.address.0 → ⊥ = c.in_default.ensures in
    let w = walking_low a.s.now a.list a.back a.lists.now o.lists o.i o.invariant c.loop-i-test.true (plain l.result) l.ensures (omega arith) in
    record { says = w.0; keeps = w.1 }

pub step_over-requires : goal.step_over-requires
step_over-requires c = c.loop-i.invariant.valid

pub returns-then-not-step_over : goal.returns-then-not-step_over
returns-then-not-step_over c =
    let a = c.args in
    let o = c.loop-i in
    let l = c.location_at-l in
    let f = c.step_over in
    let n : (a.back ≤ l.result.address.0) × (c.in-Some.address ≡ l.result.address.0 - a.back) = c.in-Some.ensures in
    let key : plain c.new-key.result ≡ moved_back (plain l.result) a.back =
    c.new-key.ensures ∙ ap (λ (x : ℕ). record { address = x; created = l.result.created_at.0; destroyed = l.result.destroyed_at.0 }) n.1 in
    let w = walking_lone a.s.now a.list a.back a.lists.now o.lists o.i o.invariant c.loop-i-test.true (plain l.result) l.ensures n.0 _ key f.new.lists f.ensures.0 f.result f.ensures.1 c.if-not-step_over.true in
    record { says = w.0; keeps = w.1 }

pub loop-i-preserved : goal.loop-i-preserved
loop-i-preserved c =
    let a = c.args in
    let o = c.loop-i in
    let l = c.location_at-l in
    let f = c.step_over in
    let n : (a.back ≤ l.result.address.0) × (c.in-Some.address ≡ l.result.address.0 - a.back) = c.in-Some.ensures in
    let key : plain c.new-key.result ≡ moved_back (plain l.result) a.back =
    c.new-key.ensures ∙ ap (λ (x : ℕ). record { address = x; created = l.result.created_at.0; destroyed = l.result.destroyed_at.0 }) n.1 in
    walking_again a.s.now a.list a.back a.lists.now o.lists o.i o.invariant c.loop-i-test.true (plain l.result) l.ensures n.0 _ key f.new.lists f.ensures.0 f.result f.ensures.1 c.if-not-step_over.false

pub returns : goal.returns
returns c =
    let a = c.args in
    let o = c.loop-i in
    let w = walking_done a.s.now a.list a.back a.lists.now o.lists o.i o.invariant c.loop-i-test.false c.all_ended.result c.all_ended.ensures in
    record { says = w.0; keeps = w.1 }
