-- Hexadecimal pairs are read back as their bytes, and what is read as bytes is their pairs. Assumes nothing.
use Prim.Native.Nat.{ℕ, ◌+◌, ◌-◌, ◌*◌, ◌/◌, ◌%◌, ◌≤◌, ◌<◌}
use native.Mathlib.Omega.{arith}
use mathlib.Core.Path.{◌≡◌, refl, sym, ap, subst, ◌∙◌}
use mathlib.Core.Bool.{Bool, true, false, cond}
use mathlib.Core.Logic.{◌⊎◌, inl, inr}
use mathlib.Core.List.Memᴰ
use mathlib.Core.List.{List, [], ◌∷◌, ◌++◌, Memᴰ}
use mathlib.Core.Option as M
use lib.ListN.{length, get_or, drop}
use lib.Seq.{get_or-drop, drop-drop}
use lib.Dec.{ltb, eqb}
use Rattle.std.specs.Prelude.{Option, Some, None}
use Rattle.definitions.specs.Program.{hex_digit, hex, Bytes}
use Rattle.definitions.proofs.Views.{Eq, eq, Lt, lt}
use Rattle.numerals.specs.Numerals.{is_digit}
use Rattle.hex_pairs.specs.HexBytes.{nibble, byte_of, pair, closing, after_byte, after_pair, hex_bytes, last_bytes}
use Rattle.hex_pairs.specs.HexAnswers.{pairs_at}
use Rattle.numerals.proofs.Steps.{digit_tells}
use Rattle.hex_pairs.proofs.Steps.{nibble_digit, nibble_letter, nibble_small, pair_both}

-- ── digits and pairs ──

nibble_back : (d : ℕ) → d < 16 → nibble (hex_digit d) ≡ Some d
nibble_back d h = go (ltb d 10) (lt d 10)
  where
    go : (o : Bool) → Lt o d 10 → nibble (cond o (48 + d) (87 + d)) ≡ Some d
    go true k =
        let e : 48 + d - 48 ≡ d = omega arith in
        sym (nibble_digit (48 + d) (omega arith) (omega arith)) ∙ ap Some e
    go false k = sym (nibble_letter (87 + d) (omega arith) (omega arith) d (omega arith))

pair_back : (b : ℕ) → b < 256 → pair (hex_digit (b / 16)) (hex_digit (b % 16)) ≡ Some b
pair_back b h =
    let e : b / 16 * 16 + b % 16 ≡ b = omega arith in
    sym (pair_both (hex_digit (b / 16)) (hex_digit (b % 16)) (nibble_back (b / 16) (omega arith)) (nibble_back (b % 16) (omega arith))) ∙ ap Some e

digit_forth : (a v : ℕ) → nibble a ≡ Some v → hex_digit v ≡ a
unfolding nibble
digit_forth a v e = go (is_digit a) (ltb a 97) (ltb 102 a) refl (lt a 97) e
  where
    low : (o : Bool) → Lt o v 10 → v ≡ a - 48 → 48 ≤ a → a ≤ 57 → cond o (48 + v) (87 + v) ≡ a
    low true k e p q = omega arith
    low false k e p q = absurd (omega arith)

    high : (o : Bool) → Lt o v 10 → v ≡ a - 87 → 97 ≤ a → cond o (48 + v) (87 + v) ≡ a
    high true k e p = absurd (omega arith)
    high false k e p = omega arith

    go : (o₁ o₂ o₃ : Bool) → is_digit a ≡ o₁ → Lt o₂ a 97 → cond o₁ (Some (a - 48)) (cond o₂ None (cond o₃ None (Some (a - 87)))) ≡ Some v → hex_digit v ≡ a
    go true o₂ o₃ p q f =
        let d = digit_tells a true p in
        let k : a - 48 ≡ v = cc in
        low (ltb v 10) (lt v 10) (sym k) d.0 d.1
    go false true o₃ p q f = absurd (cc)
    go false false true p q f = absurd (cc)
    go false false false p q f = let k : a - 87 ≡ v = cc in high (ltb v 10) (lt v 10) (sym k) q

-- two digits are those of their byte
record Pair (a b v : ℕ) : Type 0 where
  first : hex_digit (v / 16) ≡ a
  second : hex_digit (v % 16) ≡ b
  small : v < 256

pair_forth : (a b v : ℕ) → pair a b ≡ Some v → Pair a b v
unfolding pair
pair_forth a b v e = go (nibble a) (nibble b) refl refl e
  where
    go : (o₁ o₂ : Option ℕ) → nibble a ≡ o₁ → nibble b ≡ o₂ → byte_of o₁ o₂ ≡ Some v → Pair a b v
    go None o₂ p q f = absurd (cc)
    go (Some h) None p q f = absurd (cc)
    go (Some h) (Some l) p q f =
        let k : h * 16 + l ≡ v = cc in
        let m = nibble_small a h p in
        let n = nibble_small b l q in
        let x : v / 16 ≡ h = omega arith in
        let y : v % 16 ≡ l = omega arith in
        record { first = ap hex_digit x ∙ digit_forth a h p; second = ap hex_digit y ∙ digit_forth b l q; small = omega arith }

-- ── bytes ──

bytes_none : Bytes []
bytes_none b m = absurd (Memᴰ.not-nil m)

bytes_more : (v : ℕ) (bs : List ℕ) → v < 256 → Bytes bs → Bytes (v ∷ bs)
bytes_more v bs h k b m = go (Memᴰ.cases_cons m)
  where
    go : (b ≡ v) ⊎ Memᴰ b bs → b < 256
    go (inl e) = omega arith
    go (inr t) = k b t

pub bytes_head : {v : ℕ} {bs : List ℕ} → Bytes (v ∷ bs) → v < 256
bytes_head {v} h = h v (Memᴰ.head refl)

pub bytes_tail : {v : ℕ} {bs : List ℕ} → Bytes (v ∷ bs) → Bytes bs
bytes_tail h b m = h b (Memᴰ.tail m)

end_back : hex_bytes (41 ∷ 41 ∷ []) ≡ M.some []
unfolding hex_bytes closing pair nibble
end_back = refl

-- the pairs of bytes, and the end of a line, are read back
hex_back : (bs : List ℕ) → Bytes bs → hex_bytes (hex bs ++ 41 ∷ 41 ∷ []) ≡ M.some bs
unfolding hex_bytes closing
hex_back [] h = end_back
hex_back (b ∷ bs) h =
    rw (pair_back b (bytes_head {v = b} {bs = bs} h), hex_back bs (bytes_tail {v = b} {bs = bs} h))

pub last_back : (bs : List ℕ) → Bytes bs → last_bytes (40 ∷ (hex bs ++ 41 ∷ 41 ∷ [])) ≡ M.some bs
unfolding last_bytes
last_back bs h = hex_back bs h

-- what is read as bytes is their pairs and the end of a line
pub record Pairs (l bs : List ℕ) : Type 0 where
  pub text : l ≡ hex bs ++ 41 ∷ 41 ∷ []
  pub fits : Bytes bs

closing_stands : (a b : ℕ) (l bs : List ℕ) → closing a b l ≡ M.some bs → Pairs (a ∷ b ∷ l) bs
unfolding closing
closing_stands a b [] bs e = go (eqb a 41) (eqb b 41) (eq a 41) (eq b 41) e
  where
    go : (o₁ o₂ : Bool) → Eq o₁ a 41 → Eq o₂ b 41 → cond o₁ (cond o₂ (M.some []) M.none) M.none ≡ M.some bs → Pairs (a ∷ b ∷ []) bs
    go true true p q f =
        let z : [] ≡ bs = cc in
        subst (λ (t : List ℕ). Pairs (a ∷ b ∷ []) t) z (record { text = rw (p, q); fits = bytes_none })
    go true false p q f = absurd (cc)
    go false o₂ p q f = absurd (cc)
closing_stands a b (c ∷ cs) bs e = absurd (cc)

hex_stands : (l bs : List ℕ) → hex_bytes l ≡ M.some bs → Pairs l bs
unfolding hex_bytes
hex_stands [] bs e = absurd (cc)
hex_stands (a ∷ []) bs e = absurd (cc)
hex_stands (a ∷ b ∷ l) bs e = go (pair a b) refl e (λ t f. hex_stands l t f)
  where
    byte : (v : ℕ) → Pair a b v → (o : M.Option (List ℕ)) → hex_bytes l ≡ o → after_byte v o ≡ M.some bs → ((t : List ℕ) → hex_bytes l ≡ M.some t → Pairs l t) → Pairs (a ∷ b ∷ l) bs
    byte v p M.none g f ih = absurd (cc)
    byte v p (M.some t) g f ih =
        let s = ih t g in
        let z : v ∷ t ≡ bs = cc in
        subst (λ (u : List ℕ). Pairs (a ∷ b ∷ l) u) z
        (record { text = rw (p.first, p.second, ← s.text); fits = bytes_more v t p.small s.fits })

    go : (o : Option ℕ) → pair a b ≡ o → after_pair o (closing a b l) (hex_bytes l) ≡ M.some bs → ((t : List ℕ) → hex_bytes l ≡ M.some t → Pairs l t) → Pairs (a ∷ b ∷ l) bs
    go None k f ih = closing_stands a b l bs f
    go (Some v) k f ih = byte v (pair_forth a b v k) (hex_bytes l) refl f ih

-- bytes in parentheses, the last of a line
pub last_stands : (l bs : List ℕ) → last_bytes l ≡ M.some bs → (l ≡ 40 ∷ (hex bs ++ 41 ∷ 41 ∷ [])) × Bytes bs
unfolding last_bytes
last_stands [] bs e = absurd (cc)
last_stands (b ∷ l) bs e = go (eqb b 40) (eq b 40) e
  where
    go : (o : Bool) → Eq o b 40 → cond o (hex_bytes l) M.none ≡ M.some bs → (b ∷ l ≡ 40 ∷ (hex bs ++ 41 ∷ 41 ∷ [])) × Bytes bs
    go true p f =
        let s = hex_stands l bs f in
        (rw (p, ← s.text), s.fits)
    go false p f = absurd (cc)

-- ── decoding ──

pub length_hex : (bs : List ℕ) → length (hex bs) ≡ 2 * length bs
length_hex [] = refl
length_hex (b ∷ bs) = omega (arith, length_hex bs)

-- the pairs of bytes that stand at an index are decoded
pub pairs_back : (bs l post : List ℕ) (at : ℕ) → Bytes bs → drop at l ≡ hex bs ++ post → pairs_at l (length bs) at ≡ bs
unfolding pairs_at
pairs_back [] l post at h e = refl
pairs_back (b ∷ bs) l post at h e =
    let z : at + 0 ≡ at = omega arith in
    let p : get_or l at 0 ≡ hex_digit (b / 16) = ap (λ (k : ℕ). get_or l k 0) (sym z) ∙ sym (get_or-drop at l 0 0) ∙ ap (λ (t : List ℕ). get_or t 0 0) e in
    let q : get_or l (at + 1) 0 ≡ hex_digit (b % 16) = sym (get_or-drop at l 1 0) ∙ ap (λ (t : List ℕ). get_or t 1 0) e in
    let r : drop (at + 2) l ≡ hex bs ++ post = sym (drop-drop 2 at l) ∙ ap (drop 2) e in
    let v : pair (get_or l at 0) (get_or l (at + 1) 0) ≡ Some b = rw (p, q) (pair_back b (bytes_head {v = b} {bs = bs} h)) in
    rw (v, pairs_back bs l post (at + 2) (bytes_tail {v = b} {bs = bs} h) r)
