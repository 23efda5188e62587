-- A test that holds of the numbers up to some point and of none behind it. Assumes nothing.
use Rattle.std.specs.Prelude.{ℕ, ◌≤◌, ◌<◌, ◌≡◌, Bool, true, false}

-- a function of the code answers, at each number of a range, what p does
abbrev pub Tests : {A : Type 0} → (A → ℕ → Bool → Type 0) → A → ℕ → ℕ → (ℕ → Bool) → Type 0
Tests post f from upto p = (i : ℕ) → from ≤ i → i < upto → (b : Bool) → post f i b → b ≡ p i

-- in the range, where p holds it holds before, too
abbrev pub Parts : ℕ → ℕ → (ℕ → Bool) → Type 0
Parts from upto p = (i j : ℕ) → from ≤ i → i ≤ j → j < upto → p j ≡ true → p i ≡ true

-- p holds in the range below k, and nowhere in it from k on
pub record PointOf (from upto : ℕ) (p : ℕ → Bool) (k : ℕ) : Type 0 where
  pub holds : (i : ℕ) → from ≤ i → i < k → p i ≡ true
  pub ends : (i : ℕ) → k ≤ i → i < upto → p i ≡ false
