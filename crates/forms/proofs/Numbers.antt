-- A decimal is read back as its number, and what is read as a number is its decimal. Assumes nothing.
use Prim.Native.Nat.{ℕ, zero, suc, ◌+◌, ◌-◌, ◌*◌, ◌/◌, ◌%◌, ◌≤◌, ◌<◌}
use native.Mathlib.Omega.{arith}
use mathlib.Core.Path.{◌≡◌, refl, sym, ap, subst, ◌∙◌}
use mathlib.Core.Bool.{Bool, true, false, cond}
use mathlib.Core.List.{List, [], ◌∷◌, ◌++◌}
use mathlib.Core.Option.{none, some}
use lib.Seq.{append_snoc}
use lib.Dec.{ltb, eqb}
use borrow.Author.Tests.{le-ltb, ne_eqb}
use Rattle.definitions.specs.Calls.{last_number}
use Rattle.definitions.specs.Program.{digits}
use Rattle.definitions.proofs.Views.{Eq, eq, Lt, lt}
use Rattle.definitions.proofs.Decimal.{ten, dec, digits_one, digits_last, dec_one, dec_more}
use Rattle.numerals.specs.Numerals.{Numeral, is_digit, space_ends, digits_from, number}
use Rattle.numerals.proofs.Steps.{digit_is, digit_tells}

-- ── a decimal is read back ──

digits_digit : (x b y : ℕ) (l : List ℕ) → 48 ≤ b → b ≤ 57 → y ≡ x * 10 + (b - 48) → y ≤ last_number → digits_from x (b ∷ l) ≡ digits_from y l
unfolding digits_from
digits_digit x b y l h k e m = rw (digit_is b h k, ← e, le-ltb last_number y m)

digits_back : (n y : ℕ) → y < ten n → y ≤ last_number → (l : List ℕ) → digits_from 0 (digits n y ++ l) ≡ digits_from y l
unfolding ten
digits_back zero y h m l =
    let e : y ≡ 0 = omega arith in
    rw e
digits_back (suc n) y h m l = go (ltb y 10) (lt y 10) (λ k t. digits_back n (y / 10) k (omega arith) t)
  where
    go : (o : Bool) → Lt o y 10 → (y / 10 < ten n → (t : List ℕ) → digits_from 0 (digits n (y / 10) ++ t) ≡ digits_from (y / 10) t) → digits_from 0 (digits (suc n) y ++ l) ≡ digits_from y l
    go true k ih = ap (λ (t : List ℕ). digits_from 0 (t ++ l)) (digits_one n y k) ∙ digits_digit 0 (48 + y) y l (omega arith) (omega arith) (omega arith) m
    go false k ih =
        ap (λ (t : List ℕ). digits_from 0 (t ++ l)) (digits_last n y k)
        ∙ ap (digits_from 0) (append_snoc (digits n (y / 10)) (48 + y % 10) l)
        ∙ ih (omega arith) ((48 + y % 10) ∷ l)
        ∙ digits_digit (y / 10) (48 + y % 10) y l (omega arith) (omega arith) (omega arith) m

-- the first digit of a number over 0 is no zero
record Head (l : List ℕ) : Type 0 where
  first : ℕ
  rest : List ℕ
  is : l ≡ first ∷ rest
  low : 49 ≤ first
  high : first ≤ 57

head_digits : (n y : ℕ) → 0 < y → y < ten n → Head (digits n y)
unfolding ten
head_digits zero y h k = absurd (omega arith)
head_digits (suc n) y h k = go (ltb y 10) (lt y 10) (λ a b. head_digits n (y / 10) a b)
  where
    go : (o : Bool) → Lt o y 10 → (0 < y / 10 → y / 10 < ten n → Head (digits n (y / 10))) → Head (digits (suc n) y)
    go true m ih = record { first = 48 + y; rest = []; is = digits_one n y m; low = omega arith; high = omega arith }
    go false m ih =
        let r = ih (omega arith) (omega arith) in
        record {
          first = r.first;
          rest = r.rest ++ ((48 + y % 10) ∷ []);
          is = digits_last n y m ∙ ap (λ (t : List ℕ). t ++ ((48 + y % 10) ∷ [])) r.is;
          low = r.low;
          high = r.high;
        }

dec_back : (y : ℕ) → y ≤ last_number → (l : List ℕ) → digits_from 0 (dec y ++ l) ≡ digits_from y l
unfolding dec ten
dec_back y m l = digits_back 20 y (omega arith) m l

head_dec : (y : ℕ) → 0 < y → y ≤ last_number → Head (dec y)
unfolding dec ten
head_dec y h m = head_digits 20 y h (omega arith)

number_zero : (r : List ℕ) → number (48 ∷ 32 ∷ r) ≡ some (record { value = 0; rest = r })
unfolding number space_ends
number_zero r = refl

number_begun : (b : ℕ) (l : List ℕ) → 49 ≤ b → b ≤ 57 → number (b ∷ l) ≡ digits_from 0 (b ∷ l)
unfolding number
number_begun b l h k =
    let a : (b ≡ 48 → ⊥) = λ e. omega arith in
    rw (ne_eqb b 48 a, digit_is b (omega arith) k)

digits_ended : (y : ℕ) (r : List ℕ) → digits_from y (32 ∷ r) ≡ some (record { value = y; rest = r })
unfolding digits_from space_ends
digits_ended y r = refl

-- a number and its space are read back
pub number_back : (y : ℕ) (r : List ℕ) → y ≤ last_number → number (dec y ++ 32 ∷ r) ≡ some (record { value = y; rest = r })
number_back zero r m = ap (λ (t : List ℕ). number (t ++ 32 ∷ r)) (dec_one 0 (omega arith)) ∙ number_zero r
number_back (suc n) r m =
    let h = head_dec (suc n) (omega arith) m in
    ap (λ (t : List ℕ). number (t ++ 32 ∷ r)) h.is
    ∙ number_begun h.first (h.rest ++ 32 ∷ r) h.low h.high
    ∙ sym (ap (λ (t : List ℕ). digits_from 0 (t ++ 32 ∷ r)) h.is)
    ∙ dec_back (suc n) m (32 ∷ r)
    ∙ digits_ended (suc n) r

-- ── what is read is a decimal ──

-- l is the decimal of the number that was read, its space, and the text behind it
pub record Stands (l : List ℕ) (n : Numeral) : Type 0 where
  pub text : l ≡ dec n.value ++ 32 ∷ n.rest
  pub fits : n.value ≤ last_number

space_stands : (x : ℕ) (l : List ℕ) (n : Numeral) → x ≤ last_number → space_ends x l ≡ some n → Stands (dec x ++ l) n
unfolding space_ends
space_stands x [] n m e = absurd (let z : ◌≡◌ {A = ℕ} 0 1 = cc in omega arith)
space_stands x (b ∷ bs) n m e = go (eqb b 32) (eq b 32) e
  where
    go : (o : Bool) → Eq o b 32 → cond o (some (record { value = x; rest = bs })) none ≡ some n → Stands (dec x ++ b ∷ bs) n
    go true h f =
        let p : record { value = x; rest = bs } ≡ n = cc in
        subst (λ (n : Numeral). Stands (dec x ++ b ∷ bs) n) p (record { text = rw h; fits = m })
    go false h f = absurd (let z : ◌≡◌ {A = ℕ} 0 1 = cc in omega arith)

digits_stand : (l : List ℕ) (x : ℕ) (n : Numeral) → 0 < x → x ≤ last_number → digits_from x l ≡ some n → Stands (dec x ++ l) n
unfolding digits_from
digits_stand [] x n h m e = absurd (let z : ◌≡◌ {A = ℕ} 0 1 = cc in omega arith)
digits_stand (b ∷ bs) x n h m e = go (is_digit b) refl e (λ y k j f. digits_stand bs y n k j f)
  where
    on : 48 ≤ b → b ≤ 57 → x * 10 + (b - 48) ≤ last_number → Stands (dec (x * 10 + (b - 48)) ++ bs) n → Stands (dec x ++ b ∷ bs) n
    on p q k s =
        let c : 48 + (b - 48) ≡ b = omega arith in
        let d : dec (x * 10 + (b - 48)) ++ bs ≡ dec x ++ b ∷ bs =
        ap (λ (t : List ℕ). t ++ bs) (dec_more x (b - 48) h (omega arith) k ∙ ap (λ (c : ℕ). dec x ++ (c ∷ [])) c) ∙ append_snoc (dec x) b bs in
        record { text = sym d ∙ s.text; fits = s.fits }

    small : (o : Bool) → Lt o last_number (x * 10 + (b - 48)) → 48 ≤ b → b ≤ 57 → cond o none (digits_from (x * 10 + (b - 48)) bs) ≡ some n
        → ((y : ℕ) → 0 < y → y ≤ last_number → digits_from y bs ≡ some n → Stands (dec y ++ bs) n) → Stands (dec x ++ b ∷ bs) n
    small true k p q f ih = absurd (let z : ◌≡◌ {A = ℕ} 0 1 = cc in omega arith)
    small false k p q f ih = on p q k (ih (x * 10 + (b - 48)) (omega arith) k f)

    go : (o : Bool) → is_digit b ≡ o
        → cond o (cond (ltb last_number (x * 10 + (b - 48))) none (digits_from (x * 10 + (b - 48)) bs)) (space_ends x (b ∷ bs)) ≡ some n
        → ((y : ℕ) → 0 < y → y ≤ last_number → digits_from y bs ≡ some n → Stands (dec y ++ bs) n) → Stands (dec x ++ b ∷ bs) n
    go true t f ih =
        let d = digit_tells b true t in
        small (ltb last_number (x * 10 + (b - 48))) (lt last_number (x * 10 + (b - 48))) d.0 d.1 f ih
    go false t f ih = space_stands x (b ∷ bs) n m f

-- what is read as a number is its decimal and a space
pub number_stands : (l : List ℕ) (n : Numeral) → number l ≡ some n → Stands l n
unfolding number
number_stands [] n e = absurd (let z : ◌≡◌ {A = ℕ} 0 1 = cc in omega arith)
number_stands (b ∷ bs) n e = go (eqb b 48) (eq b 48) e
  where
    put : (x : ℕ) → x < 10 → b ≡ 48 + x → Stands (dec x ++ bs) n → Stands (b ∷ bs) n
    put x h f s = subst (λ (t : List ℕ). Stands t n) (ap (λ (t : List ℕ). t ++ bs) (dec_one x h) ∙ ap (λ (c : ℕ). c ∷ bs) (sym f)) s

    more : (o : Bool) → is_digit b ≡ o → (b ≡ 48 → ⊥) → cond o (digits_from 0 (b ∷ bs)) none ≡ some n → Stands (b ∷ bs) n
    more true t k f =
        let d = digit_tells b true t in
        let u : (b - 48 ≡ 0 → ⊥) = λ z. k (omega arith) in
        let g = digits_digit 0 b (b - 48) bs d.0 d.1 (omega arith) (omega arith) in
        put (b - 48) (omega arith) (omega arith) (digits_stand bs (b - 48) n (omega arith) (omega arith) (sym g ∙ f))
    more false t k f = absurd (let z : ◌≡◌ {A = ℕ} 0 1 = cc in omega arith)

    go : (o : Bool) → Eq o b 48 → cond o (space_ends 0 bs) (cond (is_digit b) (digits_from 0 (b ∷ bs)) none) ≡ some n → Stands (b ∷ bs) n
    go true h f = put 0 (omega arith) (omega arith) (space_stands 0 bs n (omega arith) f)
    go false h f = more (is_digit b) refl h f
