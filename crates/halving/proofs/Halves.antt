-- What is left of a range in which a test parts: it holds of what is before, and of nothing behind. Assumes nothing.
use Rattle.std.proofs.Common.{ℕ, ◌≤◌, ◌<◌, ◌≡◌, ◌+◌, ◌∙◌, refl, sym, Bool, true, false, arith}
use Rattle.halving.specs.Halving.{Parts}

pub record Left (from upto : ℕ) (p : ℕ → Bool) (lo hi : ℕ) : Type 0 where
  pub holds : (i : ℕ) → from ≤ i → i < lo → p i ≡ true
  pub ends : (i : ℕ) → hi ≤ i → i < upto → p i ≡ false

-- where p does not hold it does not hold behind, either
not_behind : (from upto : ℕ) (p : ℕ → Bool) → Parts from upto p → (m i : ℕ) → from ≤ m → m ≤ i → i < upto → p m ≡ false → (b : Bool) → p i ≡ b → b ≡ false
not_behind from upto p parts m i low le high nay true so = sym (parts m i low le high so) ∙ nay
not_behind from upto p parts m i low le high nay false is = refl

-- the test holds half way: the point is in the upper part
pub upper : (from upto : ℕ) (p : ℕ → Bool) → Parts from upto p → (lo hi mid : ℕ) → mid < upto → p mid ≡ true → Left from upto p lo hi → Left from upto p (mid + 1) hi
upper from upto p parts lo hi mid within so h = record {
  holds = λ i low lt. parts i mid low (omega arith) within so;
  ends = h.ends;
}

-- it does not: in the lower one
pub lower : (from upto : ℕ) (p : ℕ → Bool) → Parts from upto p → (lo hi mid : ℕ) → from ≤ mid → p mid ≡ false → Left from upto p lo hi → Left from upto p lo mid
lower from upto p parts lo hi mid low nay h = record {
  holds = h.holds;
  ends = λ i le lt. not_behind from upto p parts mid i low le lt nay (p i) refl;
}
