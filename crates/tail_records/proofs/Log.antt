-- The pieces of a log, and their tails one after the other. Assumes nothing.
use Prim.Native.Nat.{ℕ, zero, suc, ◌+◌, ◌-◌, ◌*◌, ◌≤◌, ◌<◌}
use native.Mathlib.Nat.{not-suc-le-zero}
use native.Mathlib.Omega.{arith}
use mathlib.Core.Path.{◌≡◌, refl, sym, ap, subst, ◌∙◌}
use mathlib.Core.Bool.{Bool, true, false, ◌&&◌}
use mathlib.Core.List.{List, [], ◌∷◌, ◌++◌}
use lib.ListN.{length, get_or, take, drop, length-drop}
use lib.Seq.{drop-cons}
use lib.Dec.{leb, ltb}
use borrow.Author.Tests.{leb-true}
use Rattle.words.specs.Words.{le64}
use Rattle.words.proofs.Laws.{le64_ext}
use Rattle.definitions.specs.Location.{Location, moved, location_at}
use Rattle.definitions.specs.Blocks.{Piece}
use Rattle.definitions.specs.Calls.{last_number}
use Rattle.definitions.proofs.Order.{location_path}
use Rattle.trie.specs.Build.{Entry, parts, entered}
use Rattle.definitions.proofs.Tests.{and_left, and_right}
use Rattle.index_memory.specs.Log.{piece_in, log_in, piece_sound, log_sound}
use Rattle.tail_records.specs.Log.{SoundPiece, SoundLog}
use Rattle.tail_words.proofs.Part.{part_ext}

-- ── a piece ──

module _ (s s' : List ℕ) (p : ℕ) (long : length s' ≡ length s) (same : (k : ℕ) → k < p + 48 → get_or s' k 0 ≡ get_or s k 0) where
  number_same : (q : ℕ) → q + 8 ≤ p + 48 → le64 s' q ≡ le64 s q
  number_same q h = le64_ext s' s q (λ k a b. same k (omega arith))

  pub sound_ext : SoundPiece s p → SoundPiece s' p
  sound_ext w =
      let n = number_same p (omega arith) in
      let a = number_same (p + 24) (omega arith) in
      record { short = omega (arith, w.short); address = omega (arith, w.address) }

  pub piece_ext : le64 s p ≤ 16 → piece_in s' p ≡ piece_in s p
  piece_ext h =
      let b : take (le64 s' p) (drop (p + 8) s') ≡ take (le64 s p) (drop (p + 8) s) =
      ap (λ (n : ℕ). take n (drop (p + 8) s')) (number_same p (omega arith)) ∙ part_ext (le64 s p) s s' (p + 8) long (λ k x y. same k (omega arith)) in
      let l : location_at s' (p + 24) ≡ location_at s (p + 24) =
      location_path (number_same (p + 24) (omega arith)) (number_same (p + 24 + 8) (omega arith)) (number_same (p + 24 + 16) (omega arith)) in
      λ i. record { bytes = b i; at = l i }

-- ── its tails ──

abbrev pub part_of : Location → List ℕ → Entry
part_of m q = record { path = q; at = m; whole = false }

abbrev pub whole_of : Location → List ℕ → Entry
whole_of m q = record { path = q; at = m; whole = true }

parts_two : (m : Location) (xs ys zs : List ℕ) (b c : ℕ) → xs ≡ b ∷ ys → ys ≡ c ∷ zs → parts m xs ≡ part_of (moved m 1) ys ∷ parts (moved m 1) ys
parts_two m xs ys zs b c e f =
    ap (parts m) (e ∙ ap (λ (q : List ℕ). b ∷ q) f)
    ∙ ap (λ (q : List ℕ). part_of (moved m 1) q ∷ parts (moved m 1) q) (sym f)

parts_few : (m : Location) (xs : List ℕ) → length xs ≤ 1 → parts m xs ≡ []
parts_few m [] h = refl
parts_few m (b ∷ []) h = refl
parts_few m (b ∷ c ∷ xs) h = absurd (omega arith)

parts_step : (l : Location) (bs : List ℕ) (k : ℕ) → suc k < length bs
    → parts (moved l k) (drop k bs) ≡ part_of (moved l (suc k)) (drop (suc k) bs) ∷ parts (moved l (suc k)) (drop (suc k) bs)
parts_step l bs k h =
    let on : moved (moved l k) 1 ≡ moved l (suc k) = location_path (omega arith) refl refl in
    parts_two (moved l k) (drop k bs) (drop (suc k) bs) (drop (suc (suc k)) bs) (get_or bs k 0) (get_or bs (suc k) 0) (drop-cons bs k 0 (omega arith)) (drop-cons bs (suc k) 0 h)
    ∙ ap (λ (m : Location). part_of m (drop (suc k) bs) ∷ parts m (drop (suc k) bs)) on

-- what a piece enters from its part i on
abbrev pub still : Piece → ℕ → List Entry
still p i = parts (moved p.at (i - 1)) (drop (i - 1) p.bytes) ++ (whole_of p.at p.bytes ∷ [])

module _ (p : Piece) where
  pub still_start : still p 1 ≡ entered p
  still_start =
      let e : moved p.at 0 ≡ p.at = location_path (omega arith) refl refl in
      ap (λ (m : Location). parts m p.bytes ++ (whole_of p.at p.bytes ∷ [])) e

  pub still_step : (i : ℕ) → 1 ≤ i → i < length p.bytes → still p i ≡ part_of (moved p.at i) (drop i p.bytes) ∷ still p (i + 1)
  still_step zero a h = absurd (not-suc-le-zero a)
  still_step (suc k) a h =
      let e : suc k - 1 ≡ k = omega arith in
      let f : suc k + 1 - 1 ≡ suc k = omega arith in
      rw (e, f) (ap (λ (es : List Entry). es ++ (whole_of p.at p.bytes ∷ [])) (parts_step p.at p.bytes k h))

  pub still_done : (i : ℕ) → length p.bytes ≤ i → still p i ≡ whole_of p.at p.bytes ∷ []
  still_done i h =
      let few : parts (moved p.at (i - 1)) (drop (i - 1) p.bytes) ≡ [] = parts_few (moved p.at (i - 1)) (drop (i - 1) p.bytes) (omega (arith, length-drop (i - 1) p.bytes)) in
      ap (λ (es : List Entry). es ++ (whole_of p.at p.bytes ∷ [])) few

-- ── a log ──

module _ (s : List ℕ) (n p : ℕ) where
  pub log_none : (j : ℕ) → n ≤ j → log_in s (n - j) (p + 48 * j) ≡ []
  unfolding log_in
  log_none j h =
      let e : n - j ≡ 0 = omega arith in
      rw e

  pub log_step : (j : ℕ) → j < n → log_in s (n - j) (p + 48 * j) ≡ piece_in s (p + 48 * j) ∷ log_in s (n - (j + 1)) (p + 48 * (j + 1))
  unfolding log_in
  log_step j h =
      let e : n - j ≡ suc (n - (j + 1)) = omega arith in
      let f : p + 48 * j + 48 ≡ p + 48 * (j + 1) = omega arith in
      rw e (ap (λ (q : ℕ). piece_in s (p + 48 * j) ∷ log_in s (n - (j + 1)) q) f)

piece_is_sound : (m : List ℕ) (p : ℕ) → piece_sound m p ≡ true → SoundPiece m p
piece_is_sound m p e =
    let a : Bool = leb (le64 m p) 16 in
    let b : Bool = ltb (le64 m (p + 32)) (le64 m (p + 40)) in
    let c : Bool = leb (le64 m (p + 24) + le64 m p) last_number in
    record {
      short = leb-true (le64 m p) 16 (and_left a (b && c) e);
      address = leb-true (le64 m (p + 24) + le64 m p) last_number (and_right b c (and_right a (b && c) e));
    }

-- the index rule of an open index makes its log sound
pub log_is_sound : (m : List ℕ) (n p : ℕ) → log_sound m n p ≡ true → SoundLog m n p
unfolding log_sound
log_is_sound m zero p e = record { each = λ j h. absurd (not-suc-le-zero h) }
log_is_sound m (suc n) p e = record { each = λ j h. go j h (log_is_sound m n (p + 48) (and_right (piece_sound m p) (log_sound m n (p + 48)) e)) }
  where
    go : (j : ℕ) → j < suc n → SoundLog m n (p + 48) → SoundPiece m (p + 48 * j)
    go zero h ih =
        let z : p ≡ p + 48 * 0 = omega arith in
        subst (SoundPiece m) z (piece_is_sound m p (and_left (piece_sound m p) (log_sound m n (p + 48)) e))
    go (suc j) h ih =
        let z : p + 48 + 48 * j ≡ p + 48 * suc j = omega arith in
        subst (SoundPiece m) z (ih.each j (omega arith))
