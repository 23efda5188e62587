-- Steps of a relation, one after another. Assumes nothing.
use Prim.Native.Nat.{ℕ, zero, suc, ◌+◌, ◌≤◌, ◌<◌}
use native.Mathlib.Omega.{arith}
use native.Mathlib.Numerals.{add-one}
use mathlib.Core.Path.{subst}
use Rattle.single_runs.specs.Runs.{StepsTo}

-- what holds at the start, and on from each step, holds where the steps lead
pub steps_keep : {T : Type 0} (R : T → T → Type 0) (P : ℕ → T → Type 0) (most : ℕ) (x : T) → P 0 x → ((k : ℕ) (y z : T) → k < most → P k y → R y z → P (k + 1) z) → (k : ℕ) (y : T) → k ≤ most →
    StepsTo R x k y → P k y
steps_keep R P most x start more zero y l e = subst (P 0) e start
steps_keep R P most x start more (suc k) z l h =
    subst (λ n. P n z) (add-one k) (more k h.0 z (omega arith) (steps_keep R P most x start more k h.0 (omega arith) h.1) h.2)
