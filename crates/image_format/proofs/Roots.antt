-- Reading the empty index, a root and an image: one law for each way out. Assumes nothing.
use Prim.Native.Nat.{◌+◌, ◌-◌, ◌<◌, ◌≤◌, suc, ℕ}
use native.Mathlib.Omega.{arith}
use mathlib.Core.List.{List}
use mathlib.Core.Path.{◌≡◌, ap, refl}
use lib.ListN.{get_or, length}
use borrow.Author.Tests.{eq-eqb, le-leb, lt-leb, ne_eqb}
use Rattle.words.specs.Words.{le64}
use Rattle.image_format.specs.Reading.{done, fault, read_counts, read_image, read_node, read_root, refused, right, to_the_end}

module _ (s : List ℕ) (m at : ℕ) (h : 0 < m) where
  pub counts_cut : length s < at + 8 → fault 13 ≡ read_counts s m at
  unfolding read_counts
  counts_cut f =
      let e : m ≡ suc (m - 1) = omega arith in
      rw e (simp (lt-leb _ _ f))

  pub counts_wrong : at + 8 ≤ length s → (le64 s at ≡ 0 → ⊥) → fault 15 ≡ read_counts s m at
  unfolding read_counts
  counts_wrong f g =
      let e : m ≡ suc (m - 1) = omega arith in
      rw e (simp (le-leb _ _ f, ne_eqb _ _ g))

  pub counts_on : (k next : ℕ) → m ≡ k + 1 → next ≡ at + 8 → at + 8 ≤ length s → le64 s at ≡ 0 → read_counts s k next ≡ read_counts s m at
  unfolding read_counts
  counts_on k next x y f g =
      let e : m ≡ suc k = omega arith in
      rw (e, y) (simp (le-leb _ _ f, eq-eqb _ _ g))

pub counts_end : (s : List ℕ) (m at : ℕ) → m ≡ 0 → done at 1 1 0 ≡ read_counts s m at
unfolding read_counts
counts_end s m at e = rw e refl

module _ (s : List ℕ) where
  pub root_cut : length s ≡ 0 → fault 13 ≡ read_root s
  unfolding read_root
  root_cut l = simp (eq-eqb _ _ l)

  pub root_empty : (length s ≡ 0 → ⊥) → get_or s 0 0 ≡ 0 → read_counts s 3 1 ≡ read_root s
  unfolding read_root
  root_empty l z = simp (ne_eqb _ _ l, eq-eqb _ _ z)

  pub root_node : (length s ≡ 0 → ⊥) → (get_or s 0 0 ≡ 0 → ⊥) → read_node s 17 0 ≡ read_root s
  unfolding read_root
  root_node l z = simp (ne_eqb _ _ l, ne_eqb _ _ z)

  pub image_refused : (c : ℕ) → fault c ≡ read_root s → refused c ≡ read_image s
  unfolding read_image
  image_refused c e = ap (to_the_end s) e

  pub image_left_over : (next k n e : ℕ) → done next k n e ≡ read_root s → (next ≡ length s → ⊥) → refused 15 ≡ read_image s
  unfolding read_image
  image_left_over next k n e f g = rw (← f) (simp (ne_eqb next (length s) g))

  pub image_right : (next k n e : ℕ) → done next k n e ≡ read_root s → next ≡ length s → right n e ≡ read_image s
  unfolding read_image
  image_right next k n e f g = rw (← f) (simp (eq-eqb next (length s) g))
