-- What is said of the parts of an image, and of the image behind them. Assumes nothing.
use Prim.Native.Nat.{ℕ, suc, ◌+◌, ◌-◌, ◌≤◌, ◌<◌}
use native.Mathlib.Omega.{arith}
use mathlib.Core.Path.{◌≡◌, sym, ap, ◌∙◌}
use mathlib.Core.Bool.{Bool, true, false}
use mathlib.Core.List.{List}
use lib.ListN.{length, take}
use Rattle.std.specs.Prelude.{Option}
use Rattle.image_format.specs.Reading.{Layout}
use Rattle.image_format.specs.Check.{check_image}
use Rattle.test_image_vectors.specs.Said.{Saying, said_after, said_parts, said_whole}

-- ── the parts of an image ──

module _ (img : List ℕ) (n : ℕ) (s : Option Saying) where
  -- the part of n bytes is judged
  pub parts_more : (s₀ next : Option Saying) (l : Layout) → n < length img → said_parts img (length img - n) n s ≡ s₀ → l ≡ check_image (take n img) → next ≡ said_after s l → said_parts img (length img - (n + 1)) (n + 1) next ≡ s₀
  unfolding said_parts
  parts_more s₀ next l h inv e f =
      let k : length img - n ≡ suc (length img - (n + 1)) = omega arith in
      ap (λ (x : Option Saying). said_parts img (length img - (n + 1)) (n + 1) x) (f ∙ ap (said_after s) e) ∙ sym (ap (λ (x : ℕ). said_parts img x n s) k) ∙ inv

  -- all are
  pub parts_end : (s₀ : Option Saying) → length img ≤ n → said_parts img (length img - n) n s ≡ s₀ → s ≡ s₀
  unfolding said_parts
  parts_end s₀ h inv =
      let k : length img - n ≡ 0 = omega arith in
      sym (ap (λ (x : ℕ). said_parts img x n s) k) ∙ inv

-- ── an image and its parts ──

module _ (img : List ℕ) (last next : Option Saying) (l : Layout) (e : l ≡ check_image img) where
  pub whole_parts : (before : Option Saying) (parts : Bool) → parts ≡ true → before ≡ said_parts img (length img) 0 last → next ≡ said_after before l → next ≡ said_whole img last parts
  unfolding said_whole
  whole_parts before parts p f g = rw p (g ∙ ap (said_after before) e ∙ ap (λ (x : Option Saying). said_after x (check_image img)) f)

  pub whole_alone : (parts : Bool) → parts ≡ false → next ≡ said_after last l → next ≡ said_whole img last parts
  unfolding said_whole
  whole_alone parts p g = rw p (g ∙ ap (said_after last) e)
