-- A test of all numbers below one, number by number. Assumes nothing.
use Prim.Native.Nat.{ℕ, zero, suc, ◌+◌, ◌≤◌, ◌<◌}
use native.Mathlib.Omega.{arith}
use mathlib.Core.Path.{◌≡◌, refl, sym, subst}
use mathlib.Core.Bool.{Bool, true, false}
use mathlib.Core.Logic.{◌⊎◌, inl, inr}
use Rattle.std.proofs.lemmas.Bool.{cases_lt}
use Rattle.definitions.proofs.Tests.{both, and_true, is_false, not_both}
use Rattle.certificate.specs.Entries.{all}

module _ (f : ℕ → Bool) where
  pub all_start : all f 0 ≡ true
  unfolding all
  all_start = refl

  pub all_next : (k : ℕ) → all f k ≡ true → f k ≡ true → all f (k + 1) ≡ true
  unfolding all
  all_next k a b = let z : k + 1 ≡ suc k = omega arith in subst (λ (n : ℕ). all f n ≡ true) (sym z) (and_true a b)

  pub each : (k : ℕ) → all f k ≡ true → (i : ℕ) → i < k → f i ≡ true
  unfolding all
  each zero a i h = absurd (omega arith)
  each (suc k) a i h = go (cases_lt i k) (each k (both (all f k) (f k) a).0 i)
    where
      go : (i < k) ⊎ (k ≤ i) → (i < k → f i ≡ true) → f i ≡ true
      go (inl l) ih = ih l
      go (inr l) ih = let z : k ≡ i = omega arith in subst (λ (j : ℕ). f j ≡ true) z (both (all f k) (f k) a).1

  pub all_each : (k : ℕ) → ((i : ℕ) → i < k → f i ≡ true) → all f k ≡ true
  unfolding all
  all_each zero g = refl
  all_each (suc k) g = and_true (all_each k (λ i h. g i (omega arith))) (g k (omega arith))

  -- one that fails is enough
  pub all_fails : (k i : ℕ) → i < k → f i ≡ false → all f k ≡ false
  all_fails k i h e = is_false (all f k) (λ a. not_both e (each k a i h))
