-- Tails by their records: equal records are of equal tails, and what the order of two records tells of their paths.
-- Assumes nothing.
use Prim.Native.Nat.{ℕ, zero, suc, ◌+◌, ◌-◌, ◌*◌, ◌≤◌, ◌<◌}
use native.Mathlib.Nat.{not-suc-le-zero}
use native.Mathlib.Omega.{arith}
use mathlib.Core.Path.{◌≡◌, sym, ◌∙◌}
use mathlib.Core.Bool.{Bool, true, false}
use mathlib.Core.Logic.{◌⊎◌, inl, inr}
use mathlib.Core.List.{List, ◌∷◌}
use lib.ListN.{length, get_or, drop, get_or-eq_default}
use lib.Seq.{get_or-drop}
use Rattle.std.proofs.lemmas.Bool.{cases_lt}
use Rattle.records.specs.Records.{Le}
use Rattle.records.proofs.Order.{clash, lex_less, lex_same}
use Rattle.tails.specs.Tails.{Tail, high, mark_of}
use Rattle.tails.specs.Runs.{Agree, SoundPath, Upto}
use Rattle.tails.proofs.High.{agree_next, high_agree, high_le, sound_bytes, bytes_drop}

-- ── two halves of a path ──

agree_low : (xs ys : List ℕ) → Agree 16 xs ys → Agree 8 xs ys
agree_low xs ys a k l = a k (omega arith)

-- what is behind the first eight bytes
agree_drop : (d : ℕ) (xs ys : List ℕ) → Agree (8 + d) xs ys → Agree d (drop 8 xs) (drop 8 ys)
agree_drop d xs ys a k l = get_or-drop 8 xs k 0 ∙ a (8 + k) (omega arith) ∙ sym (get_or-drop 8 ys k 0)

-- ── equal records ──

pub mark_le : (w : Bool) → mark_of w ≤ 1
mark_le true = omega arith
mark_le false = omega arith

-- ── records in order ──

-- the first numbers decide, unless they are equal
module _ {x y : ℕ} {xs ys : List ℕ} (h : Le (x ∷ xs) (y ∷ ys)) where
  first_le : x ≤ y
  first_le = go (cases_lt y x)
    where
      go : (y < x) ⊎ (x ≤ y) → x ≤ y
      go (inl l) = clash (sym (lex_less y x ys xs l) ∙ h.le)
      go (inr l) = l

  rest_le : x ≡ y → Le xs ys
  rest_le e = record { le = sym (lex_same y x ys xs (omega arith) (omega arith)) ∙ h.le }

module _ (t s : Tail) (ht : SoundPath t.entry.path) (hs : SoundPath s.entry.path) (le : Upto t s) where
  -- where the paths agree below place d, the bytes there are in order
  pub byte_upto : (d : ℕ) → Agree d t.entry.path s.entry.path → get_or t.entry.path d 0 ≤ get_or s.entry.path d 0
  byte_upto d a = go (cases_lt d 8) (cases_lt d 16)
    where
      p : List ℕ
      p = t.entry.path

      q : List ℕ
      q = s.entry.path

      go : (d < 8) ⊎ (8 ≤ d) → (d < 16) ⊎ (16 ≤ d) → get_or p d 0 ≤ get_or q d 0
      go (inl l) k = high_le 8 d p q (sound_bytes p ht) (sound_bytes q hs) (first_le le) l a
      go (inr l) (inl k) =
          let e : high 8 p 0 ≡ high 8 q 0 = high_agree 8 p q (λ j m. a j (omega arith)) in
          let f : 8 + (d - 8) ≡ d = omega arith in
          let b : Agree (d - 8) (drop 8 p) (drop 8 q) = agree_drop (d - 8) p q (λ j m. a j (omega arith)) in
          let r : get_or (drop 8 p) (d - 8) 0 ≤ get_or (drop 8 q) (d - 8) 0 = high_le 8 (d - 8) (drop 8 p) (drop 8 q) (bytes_drop 8 p (sound_bytes p ht)) (bytes_drop 8 q (sound_bytes q hs)) (first_le (rest_le le e)) (omega arith) b in
          let r' : get_or p (8 + (d - 8)) 0 ≤ get_or q (8 + (d - 8)) 0 = omega (arith, get_or-drop 8 p (d - 8) 0, get_or-drop 8 q (d - 8) 0) in
          rw f at r'
      go (inr l) (inr k) = omega (arith, get_or-eq_default p 0 {n = d} (omega (arith, ht.short)))

  -- a path that ends where they agree up to is nowhere the higher
  all_agree : (d : ℕ) → Agree d t.entry.path s.entry.path → length s.entry.path ≡ d → (k : ℕ) → Agree k t.entry.path s.entry.path
  all_agree d a e zero = λ j l. absurd (not-suc-le-zero l)
  all_agree d a e (suc k) = next (all_agree d a e k)
    where
      same : Agree k t.entry.path s.entry.path → (k < d) ⊎ (d ≤ k) → get_or t.entry.path k 0 ≡ get_or s.entry.path k 0
      same b (inl l) = a k l
      same b (inr l) = omega (arith, byte_upto k b, get_or-eq_default s.entry.path 0 {n = k} (omega arith))

      next : Agree k t.entry.path s.entry.path → Agree (suc k) t.entry.path s.entry.path
      next b = agree_next k t.entry.path s.entry.path b (same b (cases_lt k d))

  -- and then the length and the mark decide
  pub ends_upto : (d : ℕ) → Agree d t.entry.path s.entry.path → length s.entry.path ≡ d
      → 2 * length t.entry.path + mark_of t.entry.whole ≤ 2 * length s.entry.path + mark_of s.entry.whole
  ends_upto d a e =
      let p : List ℕ = t.entry.path in
      let q : List ℕ = s.entry.path in
      let b : Agree 16 p q = all_agree d a e 16 in
      let h₁ : high 8 p 0 ≡ high 8 q 0 = high_agree 8 p q (agree_low p q b) in
      let h₂ : high 8 (drop 8 p) 0 ≡ high 8 (drop 8 q) 0 = high_agree 8 (drop 8 p) (drop 8 q) (agree_drop 8 p q b) in
      first_le (rest_le (rest_le le h₁) h₂)
