-- What each step of the code makes of the characters from an index on. Assumes nothing.
use Prim.Native.Nat.{ℕ, ◌+◌, ◌-◌, ◌*◌, ◌≤◌, ◌<◌}
use native.Mathlib.Omega.{arith}
use native.Mathlib.Numerals.{add-one}
use mathlib.Core.Path.{◌≡◌, refl, sym, ap, ◌∙◌, subst}
use mathlib.Core.Bool.{Bool, true, false, ◌&&◌}
use mathlib.Core.Logic.{◌⊎◌, inl, inr}
use mathlib.Core.List.Memᴰ.{head as here}
use mathlib.Core.List.Memᴰ.{not-nil}
use mathlib.Core.List.Memᴰ.{tail as later}
use mathlib.Core.List.{List, [], ◌∷◌, Memᴰ as Mem}
use lib.ListN.{length, get_or, take, drop, drop_of_length-le}
use lib.Seq.{drop-cons}
use lib.Dec.{ltb, eqb}
use borrow.Author.Tests.{lt-ltb, le-ltb, le-leb, lt-leb, eq-eqb, ne_eqb}
use Rattle.std.proofs.lemmas.Bool.{cases_lt}
use Rattle.std.specs.Prelude.{Option, Some, None, SomeIff}
use Rattle.std.specs.Option.{option_eq}
use Rattle.definitions.proofs.Views.{Eq, eq, Lt, lt}
use Rattle.definitions.proofs.Order.{mem_get_or}
use Rattle.check_character.specs.Number.{value, values, characters, weighted, sum_from, check, check_of, right}

-- ── the value of a character ──

module _ (b : ℕ) where
  pub value_star : b ≡ 42 → 36 ≡ value b
  unfolding value
  value_star e = rw e

  pub value_low : (b ≡ 42 → ⊥) → b < 48 → 37 ≡ value b
  unfolding value
  value_low n h =
      let k : b < 65 = omega arith in
      rw (lt-leb 48 b h, lt-leb 65 b k, ne_eqb b 42 n)

  pub value_digit : 48 ≤ b → b ≤ 57 → b - 48 ≡ value b
  unfolding value
  value_digit h k = rw (le-leb 48 b h, le-leb b 57 k)

  pub value_between : (b ≡ 42 → ⊥) → 57 < b → b < 65 → 37 ≡ value b
  unfolding value
  value_between n h k =
      let m : 48 ≤ b = omega arith in
      rw (le-leb 48 b m, lt-leb b 57 h, lt-leb 65 b k, ne_eqb b 42 n)

  pub value_letter : 65 ≤ b → b ≤ 90 → b - 65 + 10 ≡ value b
  unfolding value
  value_letter h k =
      let m : 48 ≤ b = omega arith in
      let n : 57 < b = omega arith in
      rw (le-leb 48 b m, lt-leb b 57 n, le-leb 65 b h, le-leb b 90 k) (omega arith)

  pub value_high : (b ≡ 42 → ⊥) → 90 < b → 37 ≡ value b
  unfolding value
  value_high n h =
      let m : 48 ≤ b = omega arith in
      let k : 57 < b = omega arith in
      let j : 65 ≤ b = omega arith in
      rw (le-leb 48 b m, lt-leb b 57 k, le-leb 65 b j, lt-leb b 90 h, ne_eqb b 42 n)

  -- only digits, letters and `*` have a value below 37
  pub value_other : (b ≡ 42 → ⊥) → (48 ≤ b → 57 < b) → (65 ≤ b → 90 < b) → 37 ≡ value b
  value_other n d l = go (cases_lt b 48) (cases_lt b 65)
    where
      go : (b < 48) ⊎ (48 ≤ b) → (b < 65) ⊎ (65 ≤ b) → 37 ≡ value b
      go (inl h) k = value_low n h
      go (inr h) (inl k) = value_between n (d h) k
      go (inr h) (inr k) = value_high n (l k)

  -- the value of what is neither digit nor letter
  pub value_above : (48 ≤ b → 57 < b) → (65 ≤ b → 90 < b) → 36 ≤ value b
  value_above d l = go (eqb b 42) (eq b 42)
    where
      go : (o : Bool) → Eq o b 42 → 36 ≤ value b
      go true e = omega (arith, value_star e)
      go false n = omega (arith, value_other n d l)

  -- without `*`, the values below 37 are those below 36
  pub value_below : (b ≡ 42 → ⊥) → value b < 37 → value b < 36
  value_below n h = go (cases_lt b 48) (cases_lt b 58) (cases_lt b 65) (cases_lt b 91)
    where
      go : (b < 48) ⊎ (48 ≤ b) → (b < 58) ⊎ (58 ≤ b) → (b < 65) ⊎ (65 ≤ b) → (b < 91) ⊎ (91 ≤ b) → value b < 36
      go (inl k) x y z = absurd (omega (arith, value_low n k))
      go (inr k) (inl x) y z = omega (arith, value_digit k (omega arith))
      go (inr k) (inr x) (inl y) z = absurd (omega (arith, value_between n (omega arith) y))
      go (inr k) (inr x) (inr y) (inl z) = omega (arith, value_letter y (omega arith))
      go (inr k) (inr x) (inr y) (inr z) = absurd (omega (arith, value_high n (omega arith)))

  -- what is no `*` has a check value where it has a value in a number
  pub star_too : (b ≡ 42 → ⊥) → (r : Option ℕ) → SomeIff r (value b < 36) (value b) → SomeIff r (value b < 37) (value b)
  star_too n None h = λ k. h (value_below n k)
  star_too n (Some v) h = (omega (arith, h.0), h.1)

-- ── the characters of a number ──

module _ (l : List ℕ) (i : ℕ) where
  rest : i < length l → drop i l ≡ get_or l i 0 ∷ drop (i + 1) l
  rest h = rw (add-one i) (drop-cons l i 0 h)

  pub characters_end : length l ≤ i → true ≡ characters (drop i l)
  unfolding characters
  characters_end h = rw (drop_of_length-le l h)

  pub sum_end : (p : ℕ) → length l ≤ i → sum_from p (values (drop i l)) ≡ 0
  unfolding sum_from
  sum_end p h = rw (drop_of_length-le l h)

  module _ (h : i < length l) where
    pub characters_off : 35 < value (get_or l i 0) → false ≡ characters (drop i l)
    unfolding characters
    characters_off k = rw (rest h, le-ltb (value (get_or l i 0)) 36 k)

    pub characters_on : value (get_or l i 0) ≤ 35 → characters (drop (i + 1) l) ≡ characters (drop i l)
    unfolding characters
    characters_on k =
        let m : value (get_or l i 0) < 36 = omega arith in
        rw (rest h, lt-ltb (value (get_or l i 0)) 36 m)

    pub sum_on : (p : ℕ) → sum_from p (values (drop i l)) ≡ weighted (value (get_or l i 0)) p + sum_from (p + 1) (values (drop (i + 1) l))
    unfolding sum_from
    sum_on p = rw (rest h)

-- the characters passed were summed, before place i + 1
pub record Summed (l : List ℕ) (i s : ℕ) : Type 0 where
  pub small : s ≤ 36 * i
  pub passed : characters (drop i l) ≡ characters l
  pub sum : s + sum_from (i + 1) (values (drop i l)) ≡ sum_from 1 (values l)

pub summed : (l : List ℕ) (i s : ℕ) → i < length l → (v : ℕ) → v ≡ value (get_or l i 0) → v < 36 → (w : ℕ) → w ≡ weighted v (i + 1) → Summed l i s → Summed l (i + 1) (s + w)
summed l i s h v e k w f m =
    let g : w ≡ weighted (value (get_or l i 0)) (i + 1) = f ∙ ap (λ (x : ℕ). weighted x (i + 1)) e in
    record {
      small = omega (arith, m.small);
      passed = characters_on l i h (omega arith) ∙ m.passed;
      sum = omega (arith, m.sum, sum_on l i h (i + 1));
    }

pub summed_all : (l : List ℕ) (i s : ℕ) → length l ≤ i → Summed l i s → (characters l ≡ true) × (s ≡ sum_from 1 (values l))
summed_all l i s h m = (sym m.passed ∙ sym (characters_end l i h), omega (arith, m.sum, sum_end l i (i + 1) h))

-- each character of a number has a value below 36
pub character_in : (l : List ℕ) → characters l ≡ true → (c : ℕ) → Mem c l → value c < 36
unfolding characters
character_in [] e c h = absurd (not-nil h)
character_in (b ∷ bs) e c h = go (ltb (value b) 36) (lt (value b) 36) e h (λ f k. character_in bs f c k)
  where
    go : (o : Bool) → Lt o (value b) 36 → o && characters bs ≡ true → Mem c (b ∷ bs) → (characters bs ≡ true → Mem c bs → value c < 36) → value c < 36
    go true v f (here p) ih = subst (λ (x : ℕ). value x < 36) (sym p) v
    go true v f (later k) ih = ih f k
    go false v f k ih = absurd (let z : ◌≡◌ {A = ℕ} 0 1 = cc in omega arith)

pub character_at : (l : List ℕ) → characters l ≡ true → (i : ℕ) → i < length l → value (get_or l i 0) < 36
character_at l e i h = character_in l e (get_or l i 0) (mem_get_or l i h)

-- one that has such a value is a byte, Z at the most
pub character_small : (b : ℕ) → value b < 36 → b ≤ 90
character_small b h = go (cases_lt 90 b)
  where
    go : (90 < b) ⊎ (b ≤ 90) → b ≤ 90
    go (inl k) = absurd (let n : b ≡ 42 → ⊥ = λ e. omega arith in omega (arith, value_high b n k))
    go (inr k) = k

-- ── what was typed ──

module _ (l : List ℕ) where
  pub right_length : (length l ≡ 14 → ⊥) → false ≡ right l
  unfolding right
  right_length n = rw (ne_eqb (length l) 14 n)

  module _ (e : length l ≡ 14) where
    pub right_off : (characters (take 13 l) ≡ true → ⊥) → false ≡ right l
    unfolding right
    right_off n = rw (eq-eqb (length l) 14 e) (go (characters (take 13 l)) refl)
      where
        go : (o : Bool) → characters (take 13 l) ≡ o → false ≡ (o && eqb (value (get_or l 13 0)) (check_of (values (take 13 l))))
        go true f = absurd (n f)
        go false f = refl

    -- with the value v of the last one, the sum s and its check k
    pub right_so : characters (take 13 l) ≡ true → (v : Option ℕ) (s k : ℕ) → SomeIff v (value (get_or l 13 0) < 37) (value (get_or l 13 0))
        → s ≡ sum_from 1 (values (take 13 l)) → k ≡ check s → option_eq eqb v (Some k) ≡ right l
    unfolding right
    right_so f None s k p q r =
        let n = ne_eqb (value (get_or l 13 0)) (check s) (λ z. p (omega arith)) in
        rw (eq-eqb (length l) 14 e, f, ← q, n)
    right_so f (Some v) s k p q r = rw (eq-eqb (length l) 14 e, f, r, q, p.1)
