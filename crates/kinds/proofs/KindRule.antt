-- The rule of the table of kinds: its ranges have the counts from 0 to 256, each in exactly one, and no others.
-- Assumes nothing.
use Prim.Native.Nat.{◌<◌, ◌≤◌, ℕ}
use native.Mathlib.Omega.{arith}
use mathlib.Core.Bool.{Bool, ◌&&◌, cond, false, true}
use mathlib.Core.Path.{◌∙◌, ◌≡◌, refl, subst, sym}
use lib.Dec.{eqb, leb}
use borrow.Author.Tests.{eqb-false, eqb-true, le-leb, leb-false, leb-true, lt-leb}
use Rattle.std.specs.Prelude.{Option, Some, None, IsSome, option_map}
use Rattle.std.specs.Option.{option_eq}
use Rattle.kinds.specs.contracts.NodeKindPartialEq
use Rattle.std.specs.List.{find}
use Rattle.kinds.specs.Kinds.{fits, has, kind_in, kind_number, kind_of, kinds}
use Rattle.kinds.specs.declared.NodeKind.{NodeKind}
use Rattle.kinds.specs.declared.NodeKind.TheVariants as K
use Rattle.kinds.specs.declared.KindRange.{KindRange}
use Rattle.kinds.specs.KindPromises.{SomeRange, OneRange}

-- ── the kind of a count ──

pub kind_three : (n : ℕ) → n ≤ 8 → kind_of n ≡ 3
unfolding kind_of
kind_three n h =
    let z : 0 ≤ n = omega arith in
    simp (le-leb 0 n z, le-leb n 8 h)

pub kind_two : (n : ℕ) → 8 < n → n ≤ 96 → kind_of n ≡ 2
unfolding kind_of
kind_two n g h =
    let z : 0 ≤ n = omega arith in
    simp (le-leb 0 n z, lt-leb n 8 g, le-leb 9 n g, le-leb n 96 h)

pub kind_one : (n : ℕ) → 96 < n → n ≤ 256 → kind_of n ≡ 1
unfolding kind_of
kind_one n g h =
    let z : 0 ≤ n = omega arith in
    let a : 8 < n = omega arith in
    simp (le-leb 0 n z, lt-leb n 8 a, le-leb 9 n a, lt-leb n 96 g, le-leb 97 n g, le-leb n 256 h)

pub kind_none : (n : ℕ) → 256 < n → kind_of n ≡ 0
unfolding kind_of
kind_none n g =
    let z : 0 ≤ n = omega arith in
    let a : 8 < n = omega arith in
    let b : 96 < n = omega arith in
    simp (le-leb 0 n z, lt-leb n 8 a, le-leb 9 n a, lt-leb n 96 b, le-leb 97 n b, lt-leb n 256 g)

-- ── the counts of a kind ──

pub fits_three : (n : ℕ) → n ≤ 8 → fits 3 n ≡ true
unfolding fits
fits_three n h =
    let z : 0 ≤ n = omega arith in
    simp (le-leb 0 n z, le-leb n 8 h)

pub fits_two : (n : ℕ) → 9 ≤ n → n ≤ 96 → fits 2 n ≡ true
unfolding fits
fits_two n g h = simp (le-leb 9 n g, le-leb n 96 h)

pub fits_one : (n : ℕ) → 97 ≤ n → n ≤ 256 → fits 1 n ≡ true
unfolding fits
fits_one n g h = simp (le-leb 97 n g, le-leb n 256 h)

-- what it says that a kind may have a count
pub data Fits (k n : ℕ) : Type 0 where
  three : k ≡ 3 → n ≤ 8 → Fits k n
  two : k ≡ 2 → 9 ≤ n → n ≤ 96 → Fits k n
  one : k ≡ 1 → 97 ≤ n → n ≤ 256 → Fits k n

both : (a b c d : ℕ) → leb a b && leb c d ≡ true → (a ≤ b) × (c ≤ d)
both a b c d e = go (leb a b) refl (leb c d) refl e
  where
    go : (p : Bool) → leb a b ≡ p → (q : Bool) → leb c d ≡ q → p && q ≡ true → (a ≤ b) × (c ≤ d)
    go true x true y f = (leb-true a b x, leb-true c d y)
    go true x false y f = let z : ◌≡◌ {A = ℕ} 0 1 = cc in absurd (omega arith)
    go false x q y f = let z : ◌≡◌ {A = ℕ} 0 1 = cc in absurd (omega arith)

pub fits_view : (k n : ℕ) → fits k n ≡ true → Fits k n
unfolding fits
fits_view k n e = go (eqb k 3) refl (eqb k 2) refl (eqb k 1) refl e
  where
    go : (p : Bool) → eqb k 3 ≡ p → (q : Bool) → eqb k 2 ≡ q → (r : Bool) → eqb k 1 ≡ r →
        cond p (leb 0 n && leb n 8) (cond q (leb 9 n && leb n 96) (cond r (leb 97 n && leb n 256) false)) ≡ true → Fits k n
    go true x q y r z f = let h = both 0 n n 8 f in three (eqb-true k 3 x) h.1
    go false x true y r z f = let h = both 9 n n 96 f in two (eqb-true k 2 y) h.0 h.1
    go false x false y true z f = let h = both 97 n n 256 f in one (eqb-true k 1 z) h.0 h.1
    go false x false y false z f = let z : ◌≡◌ {A = ℕ} 0 1 = cc in absurd (omega arith)

-- ── the rule ──

-- a count of at most 256 lies in a range
pub some_range : SomeRange
some_range n h = go (leb n 8) refl (leb n 96) refl
  where
    go : (p : Bool) → leb n 8 ≡ p → (q : Bool) → leb n 96 ≡ q → fits (kind_of n) n ≡ true
    go true x q y = let a = leb-true n 8 x in rw (kind_three n a) (fits_three n a)
    go false x true y =
        let a = leb-false n 8 x in
        let b = leb-true n 96 y in
        rw (kind_two n a b) (fits_two n a b)
    go false x false y = let a = leb-false n 96 y in rw (kind_one n a h) (fits_one n a h)

-- and in no other; a higher count lies in none
pub one_range : OneRange
one_range k n e = go (fits_view k n e)
  where
    go : Fits k n → (n ≤ 256) × (k ≡ kind_of n)
    go (three x a) = (omega arith, x ∙ sym (kind_three n a))
    go (two x a b) = (omega arith, x ∙ sym (kind_two n a b))
    go (one x a b) = (b, x ∙ sym (kind_one n a b))

-- the number of a kind is 1, 2 or 3
pub number_range : (k : NodeKind) → (0 < kind_number k) × (kind_number k ≤ 3)
number_range K.Dense = (omega arith, omega arith)
number_range K.ByByte = (omega arith, omega arith)
number_range K.ByArrival = (omega arith, omega arith)

-- a kind may have a count exactly if it is that count's kind
pub fits_eqb : (k : NodeKind) (n : ℕ) → eqb (kind_of n) (kind_number k) ≡ fits (kind_number k) n
fits_eqb k n = go (eqb (kind_of n) (kind_number k)) refl (fits (kind_number k) n) refl (leb n 256) refl
  where
    go : (p : Bool) → eqb (kind_of n) (kind_number k) ≡ p → (q : Bool) → fits (kind_number k) n ≡ q → (r : Bool) → leb n 256 ≡ r → p ≡ q
    go true x true y r z = refl
    go true x false y true z = sym (subst (λ m. fits m n ≡ true) (eqb-true (kind_of n) (kind_number k) x) (some_range n (leb-true n 256 z))) ∙ y
    go true x false y false z = absurd (omega (arith, number_range k, eqb-true (kind_of n) (kind_number k) x, kind_none n (leb-false n 256 z)))
    go false x true y r z = absurd (eqb-false (kind_of n) (kind_number k) x (sym (one_range (kind_number k) n y).1))
    go false x false y r z = refl

-- a count of at most 256 has a kind
pub has_kind : (n : ℕ) (o : Option NodeKind) → kind_in o ≡ kind_of n → n ≤ 256 → IsSome o
has_kind n (Some k) e h = refl
has_kind n None e h = absurd (go (fits_view (kind_of n) n (some_range n h)))
  where
    go : Fits (kind_of n) n → ⊥
    go (three x a) = omega (arith, e)
    go (two x a b) = omega (arith, e)
    go (one x a b) = omega (arith, e)

-- ── the table as the code reads it ──

-- the comparison of kinds is that of their numbers
eq_kind : (j k : NodeKind) → NodeKindPartialEq.TheImpl.eq-value.it j k ≡ eqb (kind_number j) (kind_number k)
eq_kind K.Dense K.Dense = refl
eq_kind K.Dense K.ByByte = refl
eq_kind K.Dense K.ByArrival = refl
eq_kind K.ByByte K.Dense = refl
eq_kind K.ByByte K.ByByte = refl
eq_kind K.ByByte K.ByArrival = refl
eq_kind K.ByArrival K.Dense = refl
eq_kind K.ByArrival K.ByByte = refl
eq_kind K.ByArrival K.ByArrival = refl

pub is_kind : (j k : NodeKind) → true ≡ NodeKindPartialEq.TheImpl.eq-value.it j k → kind_number j ≡ kind_number k
is_kind j k e = eqb-true (kind_number j) (kind_number k) (sym (e ∙ eq_kind j k))

pub is_other_kind : (j k : NodeKind) → false ≡ NodeKindPartialEq.TheImpl.eq-value.it j k → kind_number j ≡ kind_number k → ⊥
is_other_kind j k e = eqb-false (kind_number j) (kind_number k) (sym (e ∙ eq_kind j k))

pub same_kind : (o : Option NodeKind) (k : NodeKind) → option_eq NodeKindPartialEq.TheImpl.eq-value.it o (Some k) ≡ eqb (kind_in o) (kind_number k)
same_kind None K.Dense = refl
same_kind None K.ByByte = refl
same_kind None K.ByArrival = refl
same_kind (Some j) k = eq_kind j k

-- the first range that has a count has its kind
pub first_kind : (n : ℕ) (o : Option KindRange) → o ≡ find (λ r. has r n) kinds → kind_in (option_map (λ (r : KindRange). r.kind) o) ≡ kind_of n
unfolding kind_of
first_kind n o e = rw e (go (leb 0 n && leb n 8) (leb 9 n && leb n 96) (leb 97 n && leb n 256))
  where
    go : (p q r : Bool) →
        kind_in (option_map (λ (r : KindRange). r.kind) (cond p (Some (record { kind = K.ByArrival; lowest = 0; highest = 8 })) (cond q (Some (record { kind = K.ByByte; lowest = 9; highest = 96 })) (cond r (Some (record { kind = K.Dense; lowest = 97; highest = 256 })) None))))
        ≡ cond p 3 (cond q 2 (cond r 1 0))
    go true q r = refl
    go false true r = refl
    go false false true = refl
    go false false false = refl
