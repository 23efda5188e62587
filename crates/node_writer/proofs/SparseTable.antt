-- A table of kind 2 or 3 and the children behind it, one child at a time. Assumes nothing.
use Prim.Native.Nat.{ℕ, suc, ◌+◌, ◌*◌, ◌≤◌, ◌<◌}
use native.Mathlib.Nat.{not-suc-le-zero}
use native.Mathlib.Numerals.{add-one}
use native.Mathlib.Omega.{arith}
use mathlib.Core.Path.{◌≡◌, ap, subst, ◌∙◌}
use mathlib.Core.Logic.{◌⊎◌, inl, inr}
use mathlib.Core.List.{List, [], ◌∷◌, ◌++◌, append-nil}
use lib.ListN.{length, get_or, take, set}
use lib.Seq.{sets, length-sets, take-suc, get_or-set_same, get_or-set_other}
use Rattle.std.proofs.lemmas.Bool.{cases_lt}
use Rattle.words.specs.Words.{bytes64}
use Rattle.words.specs.Holding.{Holds}
use Rattle.words.proofs.Laws.{Outside}
use Rattle.words.proofs.Parts.{get_or_sets_out, length_bytes64}
use Rattle.words.proofs.Holding.{holds_at, holds_left, holds_right, holds_append, holds_ext, holds_sets}
use Rattle.image_format.specs.Image.{Child, children_bytes, children_size, size_below, table_by_arrival, table_by_byte}
use Rattle.single_writer.specs.Kids.{no_child}
use Rattle.single_writer.proofs.Sized.{Sized, sized_take, children_length}

-- one more child behind others
pub holds_child : (s : List ℕ) (p o : ℕ) (xs : List Child) (k : Child) → Sized xs → Holds s p (children_bytes o xs) → get_or s (p + children_size xs) 0 ≡ 1
    → Holds s (p + children_size xs + 1) (k.bytes (o + children_size xs + 1)) → Holds s p (children_bytes o (xs ++ (k ∷ [])))
unfolding Holds children_bytes children_size
holds_child s p o [] k z h f c =
    let e : p + 0 ≡ p = omega arith in
    let g : o + 0 ≡ o = omega arith in
    (rw e at f, rw (append-nil (k.bytes (o + 1))) (rw (e, g) at c))
holds_child s p o (x ∷ xs) k z h f c =
    let q : p + (1 + x.size) ≡ p + 1 + x.size = omega arith in
    let rest = children_bytes (o + (1 + x.size)) xs in
    let a : Holds s (p + (1 + x.size)) rest = holds_at s (p + 1 + x.size) (p + (1 + x.size)) rest (omega arith) (holds_right s (p + 1) x.size (x.bytes (o + 1)) rest (z.0 (o + 1)) h.1) in
    let i : p + (1 + x.size + children_size xs) ≡ p + (1 + x.size) + children_size xs = omega arith in
    let j : o + (1 + x.size + children_size xs) ≡ o + (1 + x.size) + children_size xs = omega arith in
    let r = holds_child s (p + (1 + x.size)) (o + (1 + x.size)) xs k z.1 a (rw i at f) (rw (i, j) at c) in (
      h.0,
      holds_append s (p + 1) x.size (x.bytes (o + 1)) (children_bytes (o + (1 + x.size)) (xs ++ (k ∷ []))) (z.0 (o + 1)) (holds_left s (p + 1) (x.bytes (o + 1)) rest h.1)
          (holds_at s (p + (1 + x.size)) (p + 1 + x.size) (children_bytes (o + (1 + x.size)) (xs ++ (k ∷ []))) q r),
    )

-- the entry of a child, whose flag stands at an offset
abbrev pub entry_bytes : Child → ℕ → List ℕ
entry_bytes k o = k.byte ∷ bytes64 o

-- the first j children stand from start on, and their entries in the table from base on, at the places pl
pub record Sparse (base start o : ℕ) (ws : List Child) (pl : ℕ → ℕ) (s : List ℕ) (j : ℕ) : Type 0 where
  pub children : Holds s start (children_bytes o (take j ws))
  pub entries : (i : ℕ) → i < j → Holds s (base + pl i * 9) (entry_bytes (get_or ws i no_child) (o + children_size (take i ws)))

pub sparse_start : (base start o : ℕ) (ws : List Child) (pl : ℕ → ℕ) (s : List ℕ) → Sparse base start o ws pl s 0
unfolding Holds children_bytes
sparse_start base start o ws pl s = record { children = tt; entries = λ i h. absurd (not-suc-le-zero h) }

module _ (base start o : ℕ) (ws : List Child) (pl : ℕ → ℕ) (z : Sized ws) (table : base + length ws * 9 ≤ start)
    (inside : (i : ℕ) → i < length ws → pl i < length ws) (apart : (i j : ℕ) → i < length ws → j < length ws → pl i ≡ pl j → i ≡ j) where
  module _ {s : List ℕ} (s₁ s₂ : List ℕ) {j : ℕ} (w : Sparse base start o ws pl s j) (l : j < length ws)
      (room : start + children_size (take j ws) + 1 ≤ length s)
      (flag : s₁ ≡ set (sets s (base + pl j * 9) (entry_bytes (get_or ws j no_child) (o + children_size (take j ws)))) (start + children_size (take j ws)) 1)
      (same : (k : ℕ) → k < start + children_size (take j ws) + 1 → get_or s₂ k 0 ≡ get_or s₁ k 0)
      (node : Holds s₂ (start + children_size (take j ws) + 1) ((get_or ws j no_child).bytes (o + children_size (take j ws) + 1))) where
    entry : List ℕ
    entry = entry_bytes (get_or ws j no_child) (o + children_size (take j ws))

    entry_length : length entry ≡ 9
    unfolding entry
    entry_length = omega (arith, length_bytes64 (o + children_size (take j ws)))

    s₀ : List ℕ
    s₀ = sets s (base + pl j * 9) entry

    after : (k : ℕ) → k < start + children_size (take j ws) → get_or s₂ k 0 ≡ get_or s₀ k 0
    unfolding s₀ entry
    after k h = same k (omega arith) ∙ ap (λ (x : List ℕ). get_or x k 0) flag ∙ get_or-set_other s₀ (start + children_size (take j ws)) k 1 0 (omega arith)

    kept : (k : ℕ) → k < start + children_size (take j ws) → Outside 9 (base + pl j * 9) k → get_or s₂ k 0 ≡ get_or s k 0
    unfolding s₀
    kept k h (inl a) = after k h ∙ get_or_sets_out entry s (base + pl j * 9) k (inl a)
    kept k h (inr a) = after k h ∙ get_or_sets_out entry s (base + pl j * 9) k (inr (omega (arith, entry_length)))

    flag_stands : get_or s₂ (start + children_size (take j ws)) 0 ≡ 1
    unfolding s₀ entry
    flag_stands =
        same (start + children_size (take j ws)) (omega arith) ∙ ap (λ (x : List ℕ). get_or x (start + children_size (take j ws)) 0) flag
        ∙ get_or-set_same s₀ (start + children_size (take j ws)) 1 0 (omega (arith, length-sets s (base + pl j * 9) entry))

    children_stand : Holds s₂ start (children_bytes o (take j ws ++ (get_or ws j no_child ∷ [])))
    children_stand =
        let zj = sized_take j ws z in
        holds_child s₂ start o (take j ws) (get_or ws j no_child) zj
        (holds_ext s s₂ start (children_bytes o (take j ws)) (λ k a b. kept k (omega (arith, children_length o (take j ws) zj)) (inr (omega (arith, inside j l)))) w.children)
        flag_stands node

    entry_stands : Holds s₂ (base + pl j * 9) (entry_bytes (get_or ws j no_child) (o + children_size (take j ws)))
    unfolding s₀ entry
    entry_stands =
        holds_ext s₀ s₂ (base + pl j * 9) entry (λ k a b. after k (omega (arith, inside j l, entry_length)))
        (holds_sets entry s (base + pl j * 9) (omega (arith, inside j l, entry_length)))

    others : (i : ℕ) → i < j → (pl i < pl j) ⊎ (pl j ≤ pl i) → Holds s₂ (base + pl i * 9) (entry_bytes (get_or ws i no_child) (o + children_size (take i ws)))
    others i h (inl a) =
        holds_ext s s₂ (base + pl i * 9) (entry_bytes (get_or ws i no_child) (o + children_size (take i ws)))
        (λ k x y. kept k (omega (arith, inside i (omega arith), length_bytes64 (o + children_size (take i ws)))) (inl (omega (arith, length_bytes64 (o + children_size (take i ws)))))) (w.entries i h)
    others i h (inr a) =
        let ne : ¬ (pl i ≡ pl j) = λ e. absurd (omega (arith, apart i j (omega arith) l e)) in
        holds_ext s s₂ (base + pl i * 9) (entry_bytes (get_or ws i no_child) (o + children_size (take i ws)))
        (λ k x y. kept k (omega (arith, inside i (omega arith), length_bytes64 (o + children_size (take i ws)))) (inr (omega (arith, ne)))) (w.entries i h)

    all_entries : (i : ℕ) → i < j + 1 → (i < j) ⊎ (j ≤ i) → Holds s₂ (base + pl i * 9) (entry_bytes (get_or ws i no_child) (o + children_size (take i ws)))
    all_entries i h (inl a) = others i a (cases_lt (pl i) (pl j))
    all_entries i h (inr a) =
        let e : j ≡ i = omega arith in
        subst (λ (m : ℕ). Holds s₂ (base + pl m * 9) (entry_bytes (get_or ws m no_child) (o + children_size (take m ws)))) e entry_stands

    pub sparse_child : Sparse base start o ws pl s₂ (j + 1)
    sparse_child = record {
      children = rw (add-one j, take-suc ws j no_child l) children_stand;
      entries = λ i h. all_entries i h (cases_lt i j);
    }

-- ── the table ──

pub table_three : (s : List ℕ) (base o : ℕ) (ks : List Child) → ((i : ℕ) → i < length ks → Holds s (base + i * 9) (entry_bytes (get_or ks i no_child) (o + children_size (take i ks))))
    → Holds s base (table_by_arrival o ks)
unfolding Holds table_by_arrival children_size
table_three s base o [] f = tt
table_three s base o (k ∷ ks) f =
    let z : base + 0 * 9 ≡ base = omega arith in
    let y : o + 0 ≡ o = omega arith in
    let h : Holds s base (k.byte ∷ bytes64 o) = rw (z, y) at (f 0 (omega arith)) in
    let rest : Holds s (base + 9) (table_by_arrival (o + (1 + k.size)) ks) = table_three s (base + 9) (o + (1 + k.size)) ks (λ i l. next i (f (suc i) (omega arith))) in
    (h.0, holds_append s (base + 1) 8 (bytes64 o) (table_by_arrival (o + (1 + k.size)) ks) (length_bytes64 o) h.1 (holds_at s (base + 9) (base + 1 + 8) (table_by_arrival (o + (1 + k.size)) ks) (omega arith) rest))
  where
    next : (i : ℕ) → Holds s (base + suc i * 9) (entry_bytes (get_or ks i no_child) (o + (1 + k.size + children_size (take i ks))))
        → Holds s (base + 9 + i * 9) (entry_bytes (get_or ks i no_child) (o + (1 + k.size) + children_size (take i ks)))
    next i g =
        let a : base + suc i * 9 ≡ base + 9 + i * 9 = omega arith in
        let b : o + (1 + k.size + children_size (take i ks)) ≡ o + (1 + k.size) + children_size (take i ks) = omega arith in
        rw (a, b) at g

pub table_two : (s : List ℕ) (base o : ℕ) (every ks : List Child)
    → ((i : ℕ) → i < length ks → Holds s (base + i * 9) (entry_bytes (get_or ks i no_child) (o + size_below (get_or ks i no_child).byte every))) → Holds s base (table_by_byte o every ks)
unfolding Holds table_by_byte
table_two s base o every [] f = tt
table_two s base o every (k ∷ ks) f =
    let z : base + 0 * 9 ≡ base = omega arith in
    let x = o + size_below k.byte every in
    let h : Holds s base (k.byte ∷ bytes64 (o + size_below k.byte every)) = rw z at (f 0 (omega arith)) in
    let rest : Holds s (base + 9) (table_by_byte o every ks) = table_two s (base + 9) o every ks (λ i l. next i (f (suc i) (omega arith))) in
    (h.0, holds_append s (base + 1) 8 (bytes64 x) (table_by_byte o every ks) (length_bytes64 x) h.1 (holds_at s (base + 9) (base + 1 + 8) (table_by_byte o every ks) (omega arith) rest))
  where
    next : (i : ℕ) → Holds s (base + suc i * 9) (entry_bytes (get_or ks i no_child) (o + size_below (get_or ks i no_child).byte every))
        → Holds s (base + 9 + i * 9) (entry_bytes (get_or ks i no_child) (o + size_below (get_or ks i no_child).byte every))
    next i g =
        let a : base + suc i * 9 ≡ base + 9 + i * 9 = omega arith in
        rw a at g
