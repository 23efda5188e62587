-- What each step of the reader makes of the text from an index on. Assumes nothing.
use Prim.Native.Nat.{ℕ, ◌+◌, ◌-◌, ◌*◌, ◌≤◌, ◌<◌}
use native.Mathlib.Omega.{arith}
use native.Mathlib.Numerals.{add-one}
use mathlib.Core.Path.{◌≡◌, refl, sym, ◌∙◌}
use mathlib.Core.Bool.{Bool, true, false, cond}
use mathlib.Core.List.{List, [], ◌∷◌}
use mathlib.Core.Option.{none, some}
use lib.ListN.{length, get_or, drop, drop_of_length-le}
use lib.Seq.{drop-cons}
use lib.Dec.{ltb, leb}
use borrow.Author.Tests.{lt-ltb, le-ltb, le-leb, lt-leb, eq-eqb, ne_eqb, ltb-false, leb-true, leb-false}
use Rattle.definitions.specs.Calls.{last_number}
use Rattle.numerals.specs.Numerals.{is_digit, space_ends, digits_from, number}

-- ── digits ──

pub digit_low : (b : ℕ) → b < 48 → is_digit b ≡ false
digit_low b h = rw (lt-ltb b 48 h)

pub digit_high : (b : ℕ) → 48 ≤ b → is_digit b ≡ leb b 57
digit_high b h = rw (le-ltb b 48 h)

pub digit_is : (b : ℕ) → 48 ≤ b → b ≤ 57 → is_digit b ≡ true
digit_is b h k = digit_high b h ∙ le-leb b 57 k

pub digit_over : (b : ℕ) → 57 < b → is_digit b ≡ false
digit_over b h = digit_high b (omega arith) ∙ lt-leb b 57 h

-- a digit, or none
abbrev pub Digit : Bool → ℕ → Type 0
Digit true b = (48 ≤ b) × (b ≤ 57)
Digit false b = 48 ≤ b → 57 < b

pub digit_tells : (b : ℕ) (o : Bool) → is_digit b ≡ o → Digit o b
digit_tells b true e = go (ltb b 48) refl e
  where
    go : (t : Bool) → ltb b 48 ≡ t → cond t false (leb b 57) ≡ true → Digit true b
    go true p q = absurd (let y : ◌≡◌ {A = ℕ} 0 1 = cc in omega arith)
    go false p q = (ltb-false b 48 p, leb-true b 57 q)
digit_tells b false e = λ h. leb-false b 57 (sym (digit_high b h) ∙ e)

-- ── the text from an index on ──

module _ (l : List ℕ) (at : ℕ) where
  pub drop_none : length l ≤ at → drop at l ≡ []
  drop_none h = drop_of_length-le l h

  pub drop_one : at < length l → drop at l ≡ get_or l at 0 ∷ drop (at + 1) l
  drop_one h = rw (add-one at) (drop-cons l at 0 h)

  -- ── a number and its space ──

  module _ (x : ℕ) where
    pub ends_out : length l ≤ at → none ≡ space_ends x (drop at l)
    unfolding space_ends
    ends_out h = rw (drop_none h)

    pub ends_not : at < length l → (get_or l at 0 ≡ 32 → ⊥) → none ≡ space_ends x (drop at l)
    unfolding space_ends
    ends_not h n = rw (drop_one h, ne_eqb (get_or l at 0) 32 n)

    pub ends_so : at < length l → get_or l at 0 ≡ 32 → some (record { value = x; rest = drop (at + 1) l }) ≡ space_ends x (drop at l)
    unfolding space_ends
    ends_so h e = rw (drop_one h, eq-eqb (get_or l at 0) 32 e)

    pub digits_out : length l ≤ at → none ≡ digits_from x (drop at l)
    unfolding digits_from
    digits_out h = rw (drop_none h)

    module _ (h : at < length l) where
      pub digits_end : is_digit (get_or l at 0) ≡ false → space_ends x (drop at l) ≡ digits_from x (drop at l)
      unfolding digits_from
      digits_end e = rw (drop_one h, e)

      module _ (e : is_digit (get_or l at 0) ≡ true) where
        pub digits_over : last_number < x * 10 + (get_or l at 0 - 48) → none ≡ digits_from x (drop at l)
        unfolding digits_from
        digits_over f = rw (drop_one h, e, lt-ltb last_number (x * 10 + (get_or l at 0 - 48)) f)

        pub digits_on : (y : ℕ) → y ≡ x * 10 + (get_or l at 0 - 48) → y ≤ last_number → digits_from x (drop at l) ≡ digits_from y (drop (at + 1) l)
        unfolding digits_from
        digits_on y f g = rw (drop_one h, e, ← f, le-ltb last_number y g)

  pub number_out : length l ≤ at → none ≡ number (drop at l)
  unfolding number
  number_out h = rw (drop_none h)

  module _ (h : at < length l) where
    pub number_zero : get_or l at 0 ≡ 48 → space_ends 0 (drop (at + 1) l) ≡ number (drop at l)
    unfolding number
    number_zero e = rw (drop_one h, eq-eqb (get_or l at 0) 48 e)

    pub number_some : (get_or l at 0 ≡ 48 → ⊥) → is_digit (get_or l at 0) ≡ true → digits_from 0 (drop at l) ≡ number (drop at l)
    unfolding number
    number_some n e = rw (drop_one h, ne_eqb (get_or l at 0) 48 n, e)

    pub number_not : (get_or l at 0 ≡ 48 → ⊥) → is_digit (get_or l at 0) ≡ false → none ≡ number (drop at l)
    unfolding number
    number_not n e = rw (drop_one h, ne_eqb (get_or l at 0) 48 n, e)
