-- As many different numbers that pass a test as there are such numbers: they are all of them. Assumes nothing.
use Prim.Native.Nat.{ℕ, zero, suc, ◌+◌, ◌≤◌, ◌<◌}
use native.Mathlib.Nat.{not-suc-le-zero}
use native.Mathlib.Omega.{arith}
use mathlib.Core.Path.{◌≡◌, refl, sym, ap, ◌∙◌}
use mathlib.Core.Bool.{Bool, true, false, not, ◌&&◌, cond}
use lib.Dec.{eqb}
use borrow.Author.Tests.{ne_eqb}
use Rattle.definitions.proofs.Views.{Eq, eq}
use Rattle.definitions.proofs.Tests.{and_true, not_both, negated}

-- how many numbers below m pass a test
abbrev pub count : (ℕ → Bool) → ℕ → ℕ
count f zero = 0
count f (suc m) = cond (f m) 1 0 + count f m

-- the test, but not at k
abbrev pub but : (ℕ → Bool) → ℕ → ℕ → Bool
but f k m = f m && not (eqb m k)

count_beyond : (f : ℕ → Bool) (k m : ℕ) → m ≤ k → count (but f k) m ≡ count f m
count_beyond f k zero h = refl
count_beyond f k (suc m) h = go (f m) (eqb m k) (eq m k) (count_beyond f k m (omega arith))
  where
    go : (o u : Bool) → Eq u m k → count (but f k) m ≡ count f m → cond (o && not u) 1 0 + count (but f k) m ≡ cond o 1 0 + count f m
    go o true v e = absurd (omega arith)
    go true false v e = omega arith
    go false false v e = omega arith

pub count_but : (f : ℕ → Bool) (k m : ℕ) → k < m → f k ≡ true → count f m ≡ suc (count (but f k) m)
count_but f k zero h e = absurd (not-suc-le-zero h)
count_but f k (suc m) h e = go (f m) refl (eqb m k) (eq m k) (count_but f k m)
  where
    go : (o : Bool) → f m ≡ o → (u : Bool) → Eq u m k → (k < m → f k ≡ true → count f m ≡ suc (count (but f k) m)) → cond o 1 0 + count f m ≡ suc (cond (o && not u) 1 0 + count (but f k) m)
    go true p true v ih = omega (arith, count_beyond f k m (omega arith))
    go true p false v ih = omega (arith, ih (omega arith) e)
    go false p true v ih = absurd (not_both (sym (ap f v) ∙ p) e)
    go false p false v ih = omega (arith, ih (omega arith) e)

-- where a number stands among those given
pub record Stands (n : ℕ) (num : ℕ → ℕ) (k : ℕ) : Type 0 where
  pub index : ℕ
  pub inside : index < n
  pub is : num index ≡ k

-- n different numbers below m pass f, and no more than n do: each that does is one of them
pub all_of_them : (f : ℕ → Bool) (m n : ℕ) (num : ℕ → ℕ) → ((i : ℕ) → i < n → num i < m) → ((i : ℕ) → i < n → f (num i) ≡ true) → ((i j : ℕ) → i < j → j < n → num i ≡ num j → ⊥) → count f m ≤ n → (k : ℕ) → k < m → f k ≡ true → Stands n num k
all_of_them f m zero num a b d c k h e = absurd (omega (arith, count_but f k m h e))
all_of_them f m (suc n) num a b d c k h e = go (eqb k (num n)) (eq k (num n)) (all_of_them (but f (num n)) m n num)
  where
    last : count f m ≡ suc (count (but f (num n)) m)
    last = count_but f (num n) m (a n (omega arith)) (b n (omega arith))

    on : Stands n num k → Stands (suc n) num k
    on w = record { index = w.index; inside = omega (arith, w.inside); is = w.is }

    go : (o : Bool) → Eq o k (num n) → (((i : ℕ) → i < n → num i < m) → ((i : ℕ) → i < n → but f (num n) (num i) ≡ true) → ((i j : ℕ) → i < j → j < n → num i ≡ num j → ⊥) → count (but f (num n)) m ≤ n → (x : ℕ) → x < m → but f (num n) x ≡ true → Stands n num x) → Stands (suc n) num k
    go true v ih = record { index = n; inside = omega arith; is = sym v }
    go false v ih = on (ih
        (λ i l. a i (omega arith))
        (λ i l. and_true (b i (omega arith)) (negated (ne_eqb (num i) (num n) (d i n l (omega arith)))))
        (λ i j l o. d i j l (omega arith))
        (omega (arith, last))
        k h (and_true e (negated (ne_eqb k (num n) v))))
