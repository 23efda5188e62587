-- Reading ahead, one word and one front after another. Assumes nothing.
use Prim.Native.Nat.{ℕ, suc, ◌+◌, ◌-◌, ◌*◌, ◌/◌, ◌≤◌, ◌<◌}
use native.Mathlib.Omega.{arith}
use mathlib.Core.Path.{◌≡◌, refl, ap, ◌∙◌}
use mathlib.Core.List.{List, []}
use mathlib.Core.Option.{Option, none, some}
use lib.Bits.{bit_xor}
use lib.ListN.{length, drop}
use lib.Seq.{drop-cons}
use native.Mathlib.Numerals.{add-one}
use Rattle.std.proofs.lemmas.List.{drop_all}
use borrow.Author.Tests.{eq-eqb, ne_eqb}
use Rattle.words.specs.Words.{le64}
use Rattle.image_walk.specs.Tables.{entries_at, node_for}
use Rattle.fronts.specs.declared.Front.{Front}
use Rattle.fronts.specs.Fronts.{front_at}
use Rattle.fronts.specs.Ahead.{words_read, part_read, child_read, fronts_read, shares_read}

-- ── words ──

-- what is read from word i on is read in all
module _ (s : List ℕ) (at n : ℕ) where
  pub words_start : words_read s (n - 0) (at + 0 * 64) 0 ≡ words_read s n at 0
  words_start =
      let a : n - 0 ≡ n = omega arith in
      let b : at + 0 * 64 ≡ at = omega arith in
      rw (a, b) refl

  pub words_on : (i x y : ℕ) → i < n → y ≡ le64 s (at + i * 64) → words_read s (n - (i + 1)) (at + (i + 1) * 64) (bit_xor x y) ≡ words_read s (n - i) (at + i * 64) x
  unfolding words_read
  words_on i x y h e =
      let k : n - i ≡ suc (n - (i + 1)) = omega arith in
      let z : at + (i + 1) * 64 ≡ at + i * 64 + 64 = omega arith in
      rw (k, z, e) refl

  pub words_end : (i x : ℕ) → n ≤ i → x ≡ words_read s (n - i) (at + i * 64) x
  unfolding words_read
  words_end i x h = let k : n - i ≡ 0 = omega arith in rw k refl

-- ── fronts ──

module _ (s : List ℕ) (b n : ℕ) (fronts : List Front) where
  -- those from number i on
  abbrev rest : ℕ → List Front
  rest i = drop i fronts

  fronts_on : (i x : ℕ) (o : Option ℕ) → i < length fronts → o ≡ node_for (entries_at s (front_at fronts i).table.at (front_at fronts i).table.count) b
      → fronts_read s b n (rest (i + 1)) (child_read s n x o) ≡ fronts_read s b n (rest i) x
  unfolding fronts_read
  fronts_on i x o h e = rw (drop-cons fronts i (record { table = record { at = 0; count = 0 }; mask = 0 }) h, add-one i, e) refl

  pub fronts_end : (i x : ℕ) → length fronts ≤ i → x ≡ fronts_read s b n (rest i) x
  unfolding fronts_read
  fronts_end i x h = let e : rest i ≡ [] = drop_all i fronts h in rw e refl

  -- a child that is not there leaves the number as it is; one that is there adds its part
  pub fronts_none : (i x : ℕ) → i < length fronts → none ≡ node_for (entries_at s (front_at fronts i).table.at (front_at fronts i).table.count) b
      → fronts_read s b n (rest (i + 1)) x ≡ fronts_read s b n (rest i) x
  fronts_none i x h e = fronts_on i x none h e

  pub fronts_some : (i x at y : ℕ) → i < length fronts → some at ≡ node_for (entries_at s (front_at fronts i).table.at (front_at fronts i).table.count) b → y ≡ part_read s at n
      → fronts_read s b n (rest (i + 1)) (bit_xor x y) ≡ fronts_read s b n (rest i) x
  fronts_some i x at y h e ey = ap (λ (z : ℕ). fronts_read s b n (rest (i + 1)) (bit_xor x z)) ey ∙ fronts_on i x (some at) h e

-- ── all shares ──

module _ (s : List ℕ) (b : ℕ) (fronts : List Front) (at : ℕ) where
  pub shares_none : length fronts ≡ 0 → 0 ≡ shares_read s b fronts at
  shares_none e = rw (eq-eqb (length fronts) 0 e) refl

  pub shares_some : (length fronts ≡ 0 → ⊥) → fronts_read s b (length s / length fronts / length fronts) fronts (part_read s at (length s / length fronts)) ≡ shares_read s b fronts at
  shares_some h = rw (ne_eqb (length fronts) 0 h) refl
