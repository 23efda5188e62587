-- `image_walk::dense_slot` meets its contract: a flag is 0 or 1. Assumes nothing.
use Prim.Native.Nat.{ℕ, ◌≤◌}
use native.Mathlib.Omega.{arith}
use mathlib.Core.Path.{◌≡◌, refl, sym, subst}
use lib.ListN.{get_or}
use borrow.Author.Tests.{eq-eqb, ne_eqb}
use Rattle.image_walk.specs.Tables.{dense_slot}
use Rattle.image_walk.proofs.dense_slot.Goals as goal

pub returns-then-s-flag-eq0 : goal.returns-then-s-flag-eq0
unfolding dense_slot
returns-then-s-flag-eq0 c =
    let e = c.size_at-flag.ensures in
    let f = c.if-s-flag-eq0.true in
    let z : get_or c.args.s.now c.size_at-flag.result 0 ≡ 1 → ⊥ = omega arith in
    rw (← e) (simp (ne_eqb _ _ z))

pub returns : goal.returns
unfolding dense_slot
returns c =
    let a = c.args in
    let e = c.size_at-flag.ensures in
    let m : get_or a.s.now c.size_at-flag.result 0 ≤ 1 = subst (λ (x : ℕ). get_or a.s.now x 0 ≤ 1) (sym e) (c.requires.0.empty_or_taken refl a.j c.requires.1) in
    let f = c.if-s-flag-eq0.false in
    let z : get_or a.s.now c.size_at-flag.result 0 ≡ 1 = omega arith in
    rw (← e) (simp (eq-eqb _ _ z))
