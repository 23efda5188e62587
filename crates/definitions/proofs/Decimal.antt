-- The decimals of numbers, digit by digit. Assumes nothing.
use Prim.Native.Nat.{ℕ, zero, suc, ◌+◌, ◌*◌, ◌/◌, ◌%◌, ◌≤◌, ◌<◌}
use native.Mathlib.Omega.{arith}
use mathlib.Core.Path.{◌≡◌, refl, sym, ap, ◌∙◌}
use mathlib.Core.Bool.{Bool, true, false, cond}
use mathlib.Core.List.{List, [], ◌∷◌, ◌++◌}
use lib.ListN.{length, length-append}
use lib.Dec.{ltb}
use borrow.Author.Tests.{lt-ltb, le-ltb}
use Rattle.definitions.specs.Calls.{last_number}
use Rattle.definitions.specs.Program.{digits, decimal}
use Rattle.definitions.proofs.Views.{Lt, lt}

-- a power of ten
unfoldable pub ten : ℕ → ℕ
ten zero = 1
ten (suc n) = 10 * ten n

pub digits_one : (n x : ℕ) → x < 10 → digits (suc n) x ≡ (48 + x) ∷ []
digits_one n x h = rw (lt-ltb x 10 h)

pub digits_last : (n x : ℕ) → 10 ≤ x → digits (suc n) x ≡ digits n (x / 10) ++ ((48 + x % 10) ∷ [])
digits_last n x h = rw (le-ltb x 10 h)

-- where n digits are enough, one more makes no difference
pub digits_enough : (n x : ℕ) → x < ten (suc n) → digits (suc n) x ≡ digits (suc (suc n)) x
unfolding ten
digits_enough zero x h =
    let k : x < 10 = omega arith in
    digits_one 0 x k ∙ sym (digits_one 1 x k)
digits_enough (suc n) x h = go (ltb x 10) (lt x 10) (λ k. digits_enough n (x / 10) k)
  where
    go : (o : Bool) → Lt o x 10 → (x / 10 < ten (suc n) → digits (suc n) (x / 10) ≡ digits (suc (suc n)) (x / 10)) → digits (suc (suc n)) x ≡ digits (suc (suc (suc n))) x
    go true k ih = digits_one (suc n) x k ∙ sym (digits_one (suc (suc n)) x k)
    go false k ih =
        digits_last (suc n) x k ∙ ap (λ (l : List ℕ). l ++ ((48 + x % 10) ∷ [])) (ih (omega arith)) ∙ sym (digits_last (suc (suc n)) x k)

pub length_digits : (n x : ℕ) → length (digits n x) ≤ n
length_digits zero x = omega arith
length_digits (suc n) x = go (ltb x 10) (length_digits n (x / 10))
  where
    go : (o : Bool) → length (digits n (x / 10)) ≤ n → length (cond o ((48 + x) ∷ []) (digits n (x / 10) ++ ((48 + x % 10) ∷ []))) ≤ suc n
    go true h = omega arith
    go false h = simp length-append (omega arith)

-- ── numbers below 2^64 ──

-- the decimal of a number, folded
unfoldable pub dec : ℕ → List ℕ
dec x = decimal x

pub dec_decimal : (x : ℕ) → dec x ≡ decimal x
unfolding dec
dec_decimal x = refl

-- one digit
pub dec_one : (x : ℕ) → x < 10 → dec x ≡ (48 + x) ∷ []
unfolding dec
dec_one x h = digits_one 19 x h

-- the digits before the last, and the last
pub dec_last : (x : ℕ) → 10 ≤ x → x ≤ last_number → dec x ≡ dec (x / 10) ++ ((48 + x % 10) ∷ [])
unfolding dec ten
dec_last x h k = digits_last 19 x h ∙ ap (λ (l : List ℕ). l ++ ((48 + x % 10) ∷ [])) (digits_enough 18 (x / 10) (omega arith))

-- one digit more
pub dec_more : (x d : ℕ) → 0 < x → d < 10 → x * 10 + d ≤ last_number → dec (x * 10 + d) ≡ dec x ++ ((48 + d) ∷ [])
dec_more x d h k m =
    let p : (x * 10 + d) / 10 ≡ x = omega arith in
    let q : (x * 10 + d) % 10 ≡ d = omega arith in
    dec_last (x * 10 + d) (omega arith) m ∙ rw (p, q) refl

pub length_dec : (x : ℕ) → length (dec x) ≤ 20
unfolding dec
length_dec x = length_digits 20 x

-- a number with a digit behind it has at most 19
pub length_tenth : (x : ℕ) → x ≤ last_number → length (dec (x / 10)) ≤ 19
unfolding dec ten
length_tenth x h =
    let e = ap length (digits_enough 18 (x / 10) (omega arith)) in
    let k = length_digits 19 (x / 10) in
    omega arith
