-- What each step of the reader of bytes makes of a text. Assumes nothing.
use Prim.Native.Nat.{ℕ, suc, ◌+◌, ◌-◌, ◌*◌, ◌≤◌, ◌<◌}
use native.Mathlib.Omega.{arith}
use mathlib.Core.Path.{◌≡◌, refl, sym, ap, ◌∙◌}
use mathlib.Core.Bool.{Bool, true, false, cond}
use mathlib.Core.List.{List, [], ◌∷◌}
use mathlib.Core.Option as M
use lib.ListN.{length, get_or, drop}
use lib.Dec.{ltb, eqb}
use borrow.Author.Tests.{lt-ltb, le-ltb, eq-eqb, ne_eqb, ltb-true, ltb-false, eqb-true}
use Rattle.std.specs.Prelude.{Option, Some, None, is_some}
use Rattle.std.specs.Bool.{Decides, then_some}
use Rattle.std.specs.Option.{unwrap_or}
use Rattle.numerals.specs.Numerals.{is_digit}
use Rattle.numerals.proofs.Steps.{drop_none, drop_one, digit_is, digit_low, digit_over, digit_tells}
use Rattle.hex_pairs.specs.HexBytes.{nibble, pair, closing, after_byte, after_pair, hex_bytes, last_bytes}
use Rattle.hex_pairs.specs.HexAnswers.{counted}

-- ── digits ──

module _ (b : ℕ) where
  pub nibble_digit : 48 ≤ b → b ≤ 57 → Some (b - 48) ≡ nibble b
  unfolding nibble
  nibble_digit h k = rw (digit_is b h k)

  no_digit : (48 ≤ b → 57 < b) → is_digit b ≡ false
  no_digit h = go (ltb b 48) refl
    where
      go : (o : Bool) → ltb b 48 ≡ o → is_digit b ≡ false
      go true e = digit_low b (ltb-true b 48 e)
      go false e = digit_over b (h (ltb-false b 48 e))

  pub nibble_letter : 97 ≤ b → b ≤ 102 → (v : ℕ) → v ≡ b - 87 → Some v ≡ nibble b
  unfolding nibble
  nibble_letter h k v e = rw (no_digit (λ z. omega arith), le-ltb b 97 h, le-ltb 102 b k, e)

  pub nibble_none : (48 ≤ b → 57 < b) → (97 ≤ b → 102 < b) → None ≡ nibble b
  unfolding nibble
  nibble_none h k = rw (no_digit h) (go (ltb b 97) refl)
    where
      go : (o : Bool) → ltb b 97 ≡ o → ◌≡◌ {A = Option ℕ} None (cond o None (cond (ltb 102 b) None (Some (b - 87))))
      go true m = refl
      go false m = rw (lt-ltb 102 b (k (ltb-false b 97 m)))

pub nibble_small : (b v : ℕ) → nibble b ≡ Some v → v ≤ 15
unfolding nibble
nibble_small b v = go (is_digit b) (ltb b 97) (ltb 102 b) refl refl
  where
    go : (o₁ o₂ o₃ : Bool) → is_digit b ≡ o₁ → ltb 102 b ≡ o₃ → cond o₁ (Some (b - 48)) (cond o₂ None (cond o₃ None (Some (b - 87)))) ≡ Some v → v ≤ 15
    go true o₂ o₃ e f g = let d = digit_tells b true e in let k : b - 48 ≡ v = cc in omega arith
    go false true o₃ e f g = absurd (cc)
    go false false true e f g = absurd (cc)
    go false false false e f g = let m = ltb-false 102 b f in let k : b - 87 ≡ v = cc in omega arith

-- a number that stands for a digit's value, or for none
module _ (b v : ℕ) (e : v ≡ unwrap_or (nibble b) 16) where
  stands : (o : Option ℕ) → nibble b ≡ o → v ≡ unwrap_or o 16
  stands o f = e ∙ ap (λ (x : Option ℕ). unwrap_or x 16) f

  pub digit_none : 16 ≤ v → nibble b ≡ None
  digit_none h = go (nibble b) refl
    where
      go : (o : Option ℕ) → nibble b ≡ o → nibble b ≡ None
      go None f = f
      go (Some w) f = absurd (let k : v ≡ w = stands (Some w) f in omega (arith, nibble_small b w f))

  pub digit_some : v < 16 → nibble b ≡ Some v
  digit_some h = go (nibble b) refl
    where
      go : (o : Option ℕ) → nibble b ≡ o → nibble b ≡ Some v
      go None f = absurd (let k : v ≡ 16 = stands None f in omega arith)
      go (Some w) f = let k : v ≡ w = stands (Some w) f in f ∙ ap Some (sym k)

-- ── pairs ──

module _ (a b : ℕ) where
  pub pair_first : nibble a ≡ None → None ≡ pair a b
  unfolding pair
  pair_first e = rw e

  module _ {h : ℕ} (e : nibble a ≡ Some h) where
    pub pair_second : nibble b ≡ None → None ≡ pair a b
    unfolding pair
    pair_second f = rw (e, f)

    pub pair_both : {l : ℕ} → nibble b ≡ Some l → Some (h * 16 + l) ≡ pair a b
    unfolding pair
    pair_both f = rw (e, f)

-- ── a text of pairs ──

pub pairs_short : (t : List ℕ) → length t < 2 → M.none ≡ hex_bytes t
unfolding hex_bytes
pairs_short [] h = refl
pairs_short (a ∷ []) h = refl
pairs_short (a ∷ b ∷ l) h = absurd (omega arith)

no_byte : (o : Option ℕ) → is_some o ≡ false → o ≡ None
no_byte None e = refl
no_byte (Some v) e = absurd (cc)

-- without a byte in front, two parentheses are all that may stand there
pub pairs_end : (t : List ℕ) (n : ℕ) → 2 ≤ length t → is_some (pair (get_or t 0 0) (get_or t 1 0)) ≡ false → (r : Bool) → Decides r (t ≡ 41 ∷ 41 ∷ []) → then_some r n ≡ counted n (hex_bytes t)
unfolding hex_bytes closing
pairs_end [] n h e r d = absurd (omega arith)
pairs_end (a ∷ []) n h e r d = absurd (omega arith)
pairs_end (a ∷ b ∷ l) n h e r d = rw (no_byte (pair a b) e) (go r d l refl)
  where
    ends : (o₁ o₂ : Bool) → eqb a 41 ≡ o₁ → eqb b 41 ≡ o₂ → ((a ≡ 41) → (b ≡ 41) → ⊥) → ◌≡◌ {A = Option ℕ} None (counted n (cond o₁ (cond o₂ (M.some []) M.none) M.none))
    ends true true p q x = absurd (x (eqb-true a 41 p) (eqb-true b 41 q))
    ends true false p q x = refl
    ends false o₂ p q x = refl

    go : (r : Bool) → Decides r (a ∷ b ∷ l ≡ 41 ∷ 41 ∷ []) → (s : List ℕ) → s ≡ l → then_some r n ≡ counted n (closing a b s)
    go true d [] f =
        let z = d.0 refl in
        let p : a ≡ 41 = cc in
        let q : b ≡ 41 = cc in
        let k : n ≡ n + 0 = omega arith in
        rw (eq-eqb a 41 p, eq-eqb b 41 q) (ap Some k)
    go true d (c ∷ cs) f = let z = d.0 refl in absurd (cc)
    go false d [] f = ends (eqb a 41) (eqb b 41) refl refl (λ p q. absurd (let z = d.1 (rw (p, q, ← f)) in cc))
    go false d (c ∷ cs) f = refl

-- one byte more is counted
counted_one : (n v : ℕ) (o : M.Option (List ℕ)) → counted n (after_byte v o) ≡ counted (n + 1) o
counted_one n v M.none = refl
counted_one n v (M.some bs) =
    let e : n + suc (length bs) ≡ n + 1 + length bs = omega arith in
    ap Some e

pub pairs_on : (t : List ℕ) (n : ℕ) → 2 ≤ length t → is_some (pair (get_or t 0 0) (get_or t 1 0)) ≡ true → counted (n + 1) (hex_bytes (drop 2 t)) ≡ counted n (hex_bytes t)
unfolding hex_bytes
pairs_on [] n h e = absurd (omega arith)
pairs_on (a ∷ []) n h e = absurd (omega arith)
pairs_on (a ∷ b ∷ l) n h e = go (pair a b) e
  where
    go : (o : Option ℕ) → is_some o ≡ true → counted (n + 1) (hex_bytes l) ≡ counted n (after_pair o (closing a b l) (hex_bytes l))
    go None f = absurd (cc)
    go (Some v) f = sym (counted_one n v (hex_bytes l))

-- ── the parenthesis in front ──

module _ (l : List ℕ) (at : ℕ) where
  pub bytes_out : length l ≤ at → M.none ≡ last_bytes (drop at l)
  unfolding last_bytes
  bytes_out h = rw (drop_none l at h)

  module _ (h : at < length l) where
    pub bytes_not : (get_or l at 0 ≡ 40 → ⊥) → M.none ≡ last_bytes (drop at l)
    unfolding last_bytes
    bytes_not n = rw (drop_one l at h, ne_eqb (get_or l at 0) 40 n)

    pub bytes_so : get_or l at 0 ≡ 40 → hex_bytes (drop (at + 1) l) ≡ last_bytes (drop at l)
    unfolding last_bytes
    bytes_so e = rw (drop_one l at h, eq-eqb (get_or l at 0) 40 e)
