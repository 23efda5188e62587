-- Texts written one after the other, and the digits of a number. Assumes nothing.
use Prim.Native.Nat.{ℕ, ◌+◌, ◌/◌, ◌%◌, ◌≤◌, ◌<◌}
use native.Mathlib.Omega.{arith}
use mathlib.Core.Path.{◌≡◌, refl, sym, ap, subst, ◌∙◌}
use mathlib.Core.List.{List, [], ◌∷◌, ◌++◌, append_assoc}
use lib.ListN.{length, length-append}
use lib.Seq.{sets, length-sets}
use Rattle.words.proofs.Parts.{sets_append}
use Rattle.definitions.specs.Calls.{last_number}
use Rattle.definitions.specs.Program.{text, decimal}
use Rattle.definitions.proofs.Decimal.{dec, dec_decimal, dec_one, dec_last, length_dec}
use Rattle.replies.specs.Written.{Written}
use Rattle.replies.specs.Outputs.{Writes}
use Rattle.replies.specs.declared.Output.{Output}

-- one text behind another
pub written_both : {before xs mid ys after : List ℕ} {at n r : ℕ} → Written before at xs mid n → Written mid n ys after r → Written before at (xs ++ ys) after r
written_both {before} {xs} {mid} {ys} {after} {at} {n} {r} v w = record {
  out = w.out ∙ ap (λ (l : List ℕ). sets l n ys) v.out ∙ ap (λ (k : ℕ). sets (sets before at xs) k ys) v.next ∙ sym (sets_append before at xs ys);
  next = omega (arith, v.next, w.next, length-append xs ys);
}

pub written_same : {before xs ys after : List ℕ} {at r : ℕ} → xs ≡ ys → Written before at xs after r → Written before at ys after r
written_same {before} {xs} {ys} {after} {at} {r} e w = subst (λ (l : List ℕ). Written before at l after r) e w

-- a decimal has at most 20 digits
pub written_room : (x : ℕ) {before after : List ℕ} {at r : ℕ} → Written before at (decimal x) after r → r ≤ at + 20
written_room x {before} {after} {at} {r} w = omega (arith, w.next, ap length (dec_decimal x), length_dec x)

-- ── outputs ──

pub writes_none : (o : Output) → Writes o [] o
writes_none o = record { same_reference = refl; written = record { out = refl; next = omega arith } }

pub writes_both : {o m o' : Output} {xs ys : List ℕ} → Writes o xs m → Writes m ys o' → Writes o (xs ++ ys) o'
writes_both v w = record { same_reference = w.same_reference ∙ v.same_reference; written = written_both v.written w.written }

pub writes_same : {o o' : Output} {xs ys : List ℕ} → xs ≡ ys → Writes o xs o' → Writes o ys o'
writes_same e w = record { same_reference = w.same_reference; written = written_same e w.written }

pub writes_long : {o o' : Output} {xs : List ℕ} → Writes o xs o' → length o'.bytes.now ≡ length o.bytes.now
writes_long {o} {o'} {xs} w = ap length w.written.out ∙ length-sets o.bytes.now o.at xs

-- a decimal has at most 20 digits
pub decimal_room : {o o' : Output} (x : ℕ) → Writes o (decimal x) o' → o'.at ≤ o.at + 20
decimal_room x w = written_room x w.written

-- ── the digits of a number ──

pub one_digit : (x d : ℕ) → x < 10 → d ≡ 48 + x % 10 → d ∷ [] ≡ decimal x
one_digit x d h e =
    let f : 48 + x ≡ d = omega arith in
    sym (sym (dec_decimal x) ∙ dec_one x h ∙ ap (λ (c : ℕ). c ∷ []) f)

-- the digits before the last, and the last
pub more_digits : (x d : ℕ) → 10 ≤ x → x ≤ last_number → d ≡ 48 + x % 10 → decimal (x / 10) ++ (d ∷ []) ≡ decimal x
more_digits x d k h e =
    ap (λ (l : List ℕ). l ++ (d ∷ [])) (sym (dec_decimal (x / 10))) ∙ ap (λ (c : ℕ). dec (x / 10) ++ (c ∷ [])) e ∙ sym (dec_last x k h) ∙ dec_decimal x

-- ── the lines of replies, grouped as they are written ──

regrouped : (a b c d e f g h : List ℕ) → a ++ b ++ c ++ d ++ (e ++ f ++ (g ++ h)) ≡ a ++ b ++ c ++ d ++ e ++ f ++ g ++ h
regrouped a b c d e f g h = simp append_assoc

pub place_grouped : (A C D : List ℕ)
    → text "(place " ++ A ++ text " " ++ C ++ (text " " ++ D ++ (41 ∷ 10 ∷ [])) ≡ text "(place " ++ A ++ text " " ++ C ++ text " " ++ D ++ text ")" ++ (10 ∷ [])
place_grouped A C D = regrouped (text "(place ") A (text " ") C (text " ") D (text ")") (10 ∷ [])
