-- What tests joined by `&&`, `||` and `not` tell, and what makes them true. Assumes nothing.
use Prim.Native.Nat.{ℕ}
use native.Mathlib.Omega.{arith}
use mathlib.Core.Path.{◌≡◌, refl, sym}
use mathlib.Core.Bool.{Bool, true, false, not, ◌&&◌, ◌||◌}
use mathlib.Core.Logic.{◌⊎◌, inl, inr}

pub and_left : (a b : Bool) → (a && b) ≡ true → a ≡ true
and_left true b e = refl
and_left false b e = e

pub and_right : (a b : Bool) → (a && b) ≡ true → b ≡ true
and_right true b e = e
and_right false true e = refl
and_right false false e = e

pub both : (a b : Bool) → (a && b) ≡ true → (a ≡ true) × (b ≡ true)
both a b e = (and_left a b e, and_right a b e)

pub and_true : {a b : Bool} → a ≡ true → b ≡ true → (a && b) ≡ true
and_true {a} {b} e f = rw (e, f)

pub either : (t u : Bool) → (t || u) ≡ true → (t ≡ true) ⊎ (u ≡ true)
either true u e = inl refl
either false u e = inr e

pub or_left : {t : Bool} (u : Bool) → t ≡ true → (t || u) ≡ true
or_left u e = rw e

pub or_right : (t : Bool) {u : Bool} → u ≡ true → (t || u) ≡ true
or_right true e = refl
or_right false e = e

pub neither : (t u : Bool) → (t || u) ≡ false → (t ≡ false) × (u ≡ false)
neither true u e = absurd (let z : ◌≡◌ {A = ℕ} 0 1 = cc in omega arith)
neither false u e = (refl, e)

pub negated : {t : Bool} → t ≡ false → not t ≡ true
negated e = rw e

-- no test is both
pub not_both : {t : Bool} → t ≡ false → t ≡ true → ⊥
not_both {t} e f = let z : ◌≡◌ {A = ℕ} 0 1 = cc in omega arith

-- a test is false where it cannot be true
pub is_false : (t : Bool) → (t ≡ true → ⊥) → t ≡ false
is_false true f = absurd (f refl)
is_false false f = refl

-- two tests that hold together are equal
pub same_test : (t u : Bool) → (t ≡ true → u ≡ true) → (u ≡ true → t ≡ true) → t ≡ u
same_test true u f g = sym (f refl)
same_test false true f g = g refl
same_test false false f g = refl
