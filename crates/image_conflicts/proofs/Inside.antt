-- Locations in line: whether one of them lives inside a piece. Assumes nothing.
use Prim.Native.Nat.{ℕ, ◌+◌, ◌-◌, ◌≤◌, ◌<◌}
use native.Mathlib.Omega.{arith}
use mathlib.Core.Path.{◌≡◌, refl, sym, ap, subst, ◌∙◌}
use mathlib.Core.Bool.{Bool, true, false, not, ◌&&◌}
use mathlib.Core.Logic.{◌⊎◌, inl, inr, ◌↔◌}
use mathlib.Core.List.Memᴰ.{head as here}
use mathlib.Core.List.Memᴰ.{not-nil}
use mathlib.Core.List.Memᴰ.{tail as later}
use mathlib.Core.List.{List, [], ◌∷◌, Memᴰ as Mem}
use borrow.Author.Tests.{not-true}
use Rattle.std.proofs.lemmas.Bool.{cases_lt}
use Rattle.definitions.specs.Location.{Location, meets}
use Rattle.definitions.proofs.Tests.{both, and_true, is_false, not_both, negated}
use Rattle.conflicts.specs.Lined.{first_from, lives_among, Lined}
use Rattle.conflicts.specs.Promises.{FirstFrom, LivesAmong}
use Rattle.conflicts.proofs.Line.{Earlier, earlier_told, first_from_is, lives_among_is}
use Rattle.image_conflicts.specs.Due.{lives_inside, all_clear}

-- what is found lies among them
pub first_within : (n : ℕ) (at : ℕ → Location) → Lined n at → (b c g : ℕ) → g ≡ first_from at (n - 0) 0 b c → g ≤ n
first_within n at s b c g e = omega (arith, (first_from_is n at s 0 b c (omega arith)).high)

module _ (n : ℕ) (at : ℕ → Location) (s : Lined n at) (m : ℕ) (x : Location) where
  -- the first behind the piece's first address
  first : FirstFrom n at 0 (x.address + 1) 0 (first_from at n 0 (x.address + 1) 0)
  first = let e : n - 0 ≡ n = omega arith in subst (λ (k : ℕ). FirstFrom n at 0 (x.address + 1) 0 (first_from at k 0 (x.address + 1) 0)) e (first_from_is n at s 0 (x.address + 1) 0 (omega arith))

  behind : (i : ℕ) → i < n → x.address < (at i).address → first_from at n 0 (x.address + 1) 0 ≤ i
  behind i h a = go (cases_lt i (first_from at n 0 (x.address + 1) 0))
    where
      go : (i < first_from at n 0 (x.address + 1) 0) ⊎ (first_from at n 0 (x.address + 1) 0 ≤ i) → first_from at n 0 (x.address + 1) 0 ≤ i
      go (inr l) = l
      go (inl l) = absurd (low (earlier_told (at i) (x.address + 1) 0 true (first.before i (omega arith) l)))
        where
          low : Earlier true (at i) (x.address + 1) 0 → ⊥
          low v = let e : (at i).address ≡ x.address + 1 = omega (arith, v.0) in omega (arith, v.1 e)

  -- what the code finds
  pub inside_told : (g : ℕ) → g ≡ first_from at (n - 0) 0 (x.address + 1) 0 → (r : Bool) → r ≡ lives_among at (n - g) g x (x.address + m) → not r ≡ not (lives_inside at n m x)
  unfolding lives_inside
  inside_told g e r f =
      let z : n - 0 ≡ n = omega arith in
      ap not (f ∙ ap (λ (k : ℕ). lives_among at (n - k) k x (x.address + m)) (e ∙ ap (λ (k : ℕ). first_from at k 0 (x.address + 1) 0) z))

  pub none_inside : (lives_inside at n m x ≡ false) ↔ ((i : ℕ) → i < n → x.address < (at i).address → (at i).address < x.address + m → meets x (at i) ≡ false)
  unfolding lives_inside
  none_inside = (to, fro)
    where
      g : ℕ
      g = first_from at n 0 (x.address + 1) 0

      to : lives_among at (n - g) g x (x.address + m) ≡ false → (i : ℕ) → i < n → x.address < (at i).address → (at i).address < x.address + m → meets x (at i) ≡ false
      to e i h a b = is_false (meets x (at i)) (λ t. not_both e ((lives_among_is n at g x (x.address + m) first.high).1 (record { index = i; low = behind i h a; high = h; below = b; is = t })))

      fro : ((i : ℕ) → i < n → x.address < (at i).address → (at i).address < x.address + m → meets x (at i) ≡ false) → lives_among at (n - g) g x (x.address + m) ≡ false
      fro f = is_false (lives_among at (n - g) g x (x.address + m)) (λ e. on ((lives_among_is n at g x (x.address + m) first.high).0 e))
        where
          on : LivesAmong n at g x (x.address + m) → ⊥
          on w =
              let v : Earlier false (at w.index) (x.address + 1) 0 = earlier_told (at w.index) (x.address + 1) 0 false (first.after w.index w.low w.high) in
              not_both (f w.index w.high (omega (arith, v.0)) w.below) w.is

module _ (n : ℕ) (at : ℕ → Location) (m : ℕ) where
  -- the chunks of a node are clear exactly if each is
  pub all_clear_is : (ls : List Location) → (all_clear at n m ls ≡ true) ↔ ((l : Location) → Mem l ls → lives_inside at n m l ≡ false)
  unfolding all_clear
  all_clear_is [] = ((λ e l k. absurd (not-nil k)), λ f. refl)
  all_clear_is (x ∷ ls) = (to (all_clear_is ls).0, λ f. and_true (negated (f x (here refl))) ((all_clear_is ls).1 (λ l k. f l (later k))))
    where
      to : (all_clear at n m ls ≡ true → (l : Location) → Mem l ls → lives_inside at n m l ≡ false) → (not (lives_inside at n m x) && all_clear at n m ls) ≡ true → (l : Location) → Mem l (x ∷ ls) → lives_inside at n m l ≡ false
      to ih e l (here q) = subst (λ (y : Location). lives_inside at n m y ≡ false) (sym q) (not-true (lives_inside at n m x) (both (not (lives_inside at n m x)) (all_clear at n m ls) e).0)
      to ih e l (later k) = ih (both (not (lives_inside at n m x)) (all_clear at n m ls) e).1 l k

  -- a piece of one byte has no address behind its first
  pub short_clear : Lined n at → m < 2 → (ls : List Location) → all_clear at n m ls ≡ true
  short_clear s h ls = (all_clear_is ls).1 (λ l k. (none_inside n at s m l).1 (λ i _ a b. absurd (omega arith)))
