-- Members by number; a number chosen for each; different numbers are no more than there are. Assumes nothing.
use Prim.Native.Nat.{ℕ, zero, suc, ◌+◌, ◌≤◌, ◌<◌}
use native.Mathlib.Nat.{le_of_suc-le-suc, not-suc-le-zero}
use native.Mathlib.Omega.{arith}
use mathlib.Core.Path.{◌≡◌, refl, sym}
use mathlib.Core.Bool.{Bool, true, false, cond}
use mathlib.Core.Logic.{◌⊎◌, inl, inr}
use mathlib.Core.List.Memᴰ.{head as here}
use mathlib.Core.List.Memᴰ.{tail as later}
use mathlib.Core.List.{List, [], ◌∷◌, Memᴰ as Mem}
use lib.ListN.{length, get_or}
use borrow.Author.Tests.{ne_eqb}
use Rattle.std.proofs.lemmas.Bool.{cases_lt}
use Rattle.definitions.specs.Location.{Location, Sorted}
use Rattle.conflicts.specs.Order.{nowhere, loc}
use Rattle.definitions.proofs.Tests.{and_true, negated}
use Rattle.conflicts.proofs.Counting.{count, but, count_but}

-- a member's number
pub record At {A : Type 0} (xs : List A) (d x : A) : Type 0 where
  pub index : ℕ
  pub inside : index < length xs
  pub is : get_or xs index d ≡ x

pub member_at : {A : Type 0} (xs : List A) (d x : A) → Mem x xs → At xs d x
member_at {A = A} [] d x x3 = elim x3 [ ]
member_at (y ∷ xs) d x (here e) = record { index = 0; inside = omega arith; is = sym e }
member_at {A} (y ∷ xs) d x (later m) = on (member_at xs d x m)
  where
    on : At xs d x → At (y ∷ xs) d x
    on w = record { index = suc w.index; inside = omega (arith, w.inside); is = w.is }

pub at_member : {A : Type 0} (xs : List A) (d : A) (i : ℕ) → i < length xs → Mem (get_or xs i d) xs
at_member [] d i h = absurd (not-suc-le-zero h)
at_member (x ∷ xs) d zero h = here refl
at_member (x ∷ xs) d (suc i) h = later (at_member xs d i (le_of_suc-le-suc h))

-- a sorted list by number
pub sorted_at : (R : Location → Location → Type 0) (ls : List Location) → Sorted R ls → (i j : ℕ) → i < j → j < length ls → R (loc ls i) (loc ls j)
sorted_at R [] s i j h k = absurd (not-suc-le-zero k)
sorted_at R (l ∷ ls) s i zero h k = absurd (not-suc-le-zero h)
sorted_at R (l ∷ ls) s zero (suc j) h k = s.0 (loc ls j) (at_member ls nowhere j (le_of_suc-le-suc k))
sorted_at R (l ∷ ls) s (suc i) (suc j) h k = sorted_at R ls s.1 i j (le_of_suc-le-suc h) (le_of_suc-le-suc k)

-- ── a number chosen for each below n ──

pub record Choice (P : ℕ → ℕ → Type 0) (i : ℕ) : Type 0 where
  pub number : ℕ
  pub right : P i number

abbrev chosen : {P : ℕ → ℕ → Type 0} (n i : ℕ) → (i < n → Choice P i) → (i < n) ⊎ (n ≤ i) → ℕ
chosen n i g (inl h) = (g h).number
chosen n i g (inr h) = 0

pub record Chosen (P : ℕ → ℕ → Type 0) (n : ℕ) : Type 0 where
  pub pick : ℕ → ℕ
  pub right : (i : ℕ) → i < n → P i (pick i)

pub choose : (P : ℕ → ℕ → Type 0) (n : ℕ) → ((i : ℕ) → i < n → Choice P i) → Chosen P n
choose P n g = record { pick = λ i. chosen {P = P} n i (g i) (cases_lt i n); right = λ i h. go i h (cases_lt i n) }
  where
    go : (i : ℕ) → i < n → (c : (i < n) ⊎ (n ≤ i)) → P i (chosen {P = P} n i (g i) c)
    go i h (inl k) = (g i k).right
    go i h (inr k) = absurd (omega arith)

-- ── counts ──

-- n different numbers below m that pass a test are no more than pass it
pub no_more : (f : ℕ → Bool) (m n : ℕ) (num : ℕ → ℕ) → ((i : ℕ) → i < n → num i < m) → ((i : ℕ) → i < n → f (num i) ≡ true) → ((i j : ℕ) → i < j → j < n → num i ≡ num j → ⊥) → n ≤ count f m
no_more f m zero num a b d = omega arith
no_more f m (suc n) num a b d =
    omega (
      arith,
      count_but f (num n) m (a n (omega arith)) (b n (omega arith)),
      no_more (but f (num n)) m n num (λ i l. a i (omega arith)) (λ i l. and_true (b i (omega arith)) (negated (ne_eqb (num i) (num n) (d i n l (omega arith))))) (λ i j l o. d i j l (omega arith)),
    )

-- all pass
pub count_all : (f : ℕ → Bool) (m : ℕ) → ((i : ℕ) → i < m → f i ≡ true) → count f m ≡ m
count_all f zero g = refl
count_all f (suc m) g = go (f m) (g m (omega arith)) (count_all f m (λ i h. g i (omega arith)))
  where
    go : (o : Bool) → o ≡ true → count f m ≡ m → cond o 1 0 + count f m ≡ suc m
    go true e h = omega arith
    go false e h = absurd (let z : ◌≡◌ {A = ℕ} 0 1 = cc in omega arith)

pub no_more_than : (m n : ℕ) (num : ℕ → ℕ) → ((i : ℕ) → i < n → num i < m) → ((i j : ℕ) → i < j → j < n → num i ≡ num j → ⊥) → n ≤ m
no_more_than m n num a d = omega (arith, count_all (λ i. true) m (λ i h. refl), no_more (λ i. true) m n num a (λ i h. refl) d)
