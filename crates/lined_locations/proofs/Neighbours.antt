-- Whether each is ahead of the next, neighbour by neighbour. Assumes nothing.
use Prim.Native.Nat.{ℕ, zero, suc, ◌+◌, ◌-◌, ◌≤◌, ◌<◌}
use native.Mathlib.Nat.{not-suc-le-zero}
use native.Mathlib.Omega.{arith}
use mathlib.Core.Path.{◌≡◌, refl, sym, ap, subst, ◌∙◌}
use mathlib.Core.Bool.{Bool, true, false, not, ◌&&◌}
use mathlib.Core.Logic.{◌⊎◌, inl, inr}
use Rattle.std.proofs.lemmas.Bool.{cases_lt}
use Rattle.definitions.specs.Location.{Location}
use Rattle.definitions.proofs.Tests.{and_true}
use Rattle.conflicts.specs.Lined.{is_ahead, in_line}

module _ (at : ℕ → Location) where
  pub line_start : true ≡ in_line at 0
  unfolding in_line
  line_start = refl

  line_step : (k : ℕ) → in_line at k ≡ true → is_ahead (at k) (at (suc k)) ≡ true → in_line at (suc k) ≡ true
  unfolding in_line
  line_step k e f = and_true e f

  line_broken : (m k : ℕ) → k < m → is_ahead (at k) (at (suc k)) ≡ false → in_line at m ≡ false
  unfolding in_line
  line_broken zero k h e = absurd (not-suc-le-zero h)
  line_broken (suc m) k h e = go (cases_lt k m) (line_broken m k)
    where
      no : (t u : Bool) → u ≡ false → (t && u) ≡ false
      no true u f = f
      no false u f = refl

      go : (k < m) ⊎ (m ≤ k) → (k < m → is_ahead (at k) (at (suc k)) ≡ false → in_line at m ≡ false) → (in_line at m && is_ahead (at m) (at (suc m))) ≡ false
      go (inl l) ih = rw (ih l e)
      go (inr l) ih = let z : k ≡ m = omega arith in no (in_line at m) (is_ahead (at m) (at (suc m))) (subst (λ (x : ℕ). is_ahead (at x) (at (suc x)) ≡ false) z e)

  -- the locations l and m that were read are those before i and at i, and o is what was answered of them
  module _ (i : ℕ) (o : Bool) (l m : Location) (e : o ≡ is_ahead l m) (el : l ≡ at (i - 1)) (em : m ≡ at i) (h : 1 ≤ i) where
    answered : o ≡ is_ahead (at (i - 1)) (at (suc (i - 1)))
    answered = let p : i ≡ suc (i - 1) = omega arith in let q : m ≡ at (suc (i - 1)) = em ∙ ap at p in e ∙ (λ x. is_ahead (el x) (q x))

    pub line_next : not o ≡ false → true ≡ in_line at (i - 1) → true ≡ in_line at (i + 1 - 1)
    line_next f g =
        let q : suc (i - 1) ≡ i + 1 - 1 = omega arith in
        sym (line_step (i - 1) (sym g) (sym answered ∙ is_true o f)) ∙ ap (in_line at) q
      where
        is_true : (u : Bool) → not u ≡ false → u ≡ true
        is_true true k = refl
        is_true false k = sym k

    pub line_refused : (n : ℕ) → i < n → not o ≡ true → false ≡ in_line at (n - 1)
    line_refused n k f = sym (line_broken (n - 1) (i - 1) (omega arith) (sym answered ∙ is_not o f))
      where
        is_not : (u : Bool) → not u ≡ true → u ≡ false
        is_not true g = sym g
        is_not false g = refl
