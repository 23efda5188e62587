-- The root of an image that was accepted, or that was made, stands at its start. Assumes nothing.
use Prim.Native.Nat.{ℕ, zero, suc, ◌^◌, ◌<◌}
use native.Mathlib.Omega.{arith}
use mathlib.Core.Path.{◌≡◌, refl, sym, subst, ◌∙◌}
use mathlib.Core.List.{List, []}
use lib.ListN.{length, get_or}
use borrow.Author.Tests.{eq-eqb}
use Rattle.trie.specs.Trie.{Node, Trie, empty, root}
use Rattle.image_format.proofs.ReadBack.{all_read, holds_in, node_length}
use Rattle.image_format.proofs.Shapes.{fitting}
use Rattle.image_format.proofs.Theorems.{read_image_is}
use Rattle.image_format.specs.Held.{trie_in}
use Rattle.image_format.specs.Image.{children_of, image}
use Rattle.image_format.specs.Reading.{right, refused, read_image, read_root, RightImage}
use Rattle.image_format.specs.Savable.{AllBytes, Savable}
use Rattle.image_walk.specs.Here.{NodeHere, RootHere, Laid}

-- a root that can be saved stands at the start of its image
pub here_image : (n : Node) → Savable (root n) → NodeHere (image (root n)) 16 0 n
unfolding image
here_image n v =
    let p = v.shaped in
    let small = v.size in
    let f = n.children in
    let len = node_length 16 0 n.lists (children_of f) (all_read 16 f (fitting n p).limits) in
    record {
      holds = holds_in [] (image (root n));
      within = omega arith;
      small = small;
      lists = p.lists;
      all_lists = p.all_lists;
      bytes = p.bytes;
      apart = p.apart;
      short = p.short;
      kept = p.kept;
      all_kept = p.all_kept;
    }

first_zero : get_or (image empty) 0 0 ≡ 0
unfolding image
first_zero = refl

-- a list of bytes that is the image of its own trie, and does not start with 0
pub root_here : (s : List ℕ) → image (trie_in s) ≡ s → Savable (trie_in s) → (get_or s 0 0 ≡ 0 → ⊥) → RootHere s
root_here s i v z = go (trie_in s) refl i v
  where
    go : (t : Trie) → trie_in s ≡ t → image t ≡ s → Savable t → RootHere s
    go empty q e w = absurd (z (subst (λ (x : List ℕ). get_or x 0 0 ≡ 0) e first_zero))
    go (root n) q e w = record { node = n; trie = q; here = subst (λ (x : List ℕ). NodeHere x 16 0 n) e (here_image n w) }

-- an accepted image of an index with a root
pub here_root : (s : List ℕ) → AllBytes s → length s < 2 ^ 64 → (nodes entries : ℕ) → read_image s ≡ right nodes entries → (get_or s 0 0 ≡ 0 → ⊥) → RootHere s
here_root s a l nodes entries e z =
    let r = read_image_is s a l nodes entries e in
    root_here s r.0 r.3 z

-- a node stands at the start
pub root_laid : (s : List ℕ) → RootHere s → Laid s 0
root_laid s h = record { depth = 16; node = h.node; here = h.here }

-- ── an image whose layout is right ──

read_nothing : (s : List ℕ) → length s ≡ 0 → read_image s ≡ refused 13
unfolding read_image read_root
read_nothing s z = rw (eq-eqb (length s) 0 z) refl

-- an image has a first byte
pub layout_some : (s : List ℕ) → RightImage s → 0 < length s
layout_some s h = go (length s) refl
  where
    clash : {n k e : ℕ} → refused n ≡ right k e → ⊥
    clash f = let z : ◌≡◌ {A = ℕ} 0 1 = cc in omega arith

    go : (n : ℕ) → length s ≡ n → 0 < n
    go zero q = absurd (clash (sym (read_nothing s q) ∙ h.read))
    go (suc n) q = omega arith

-- a first byte 0 is that of an empty index
pub trie_empty : (s : List ℕ) → get_or s 0 0 ≡ 0 → trie_in s ≡ empty
unfolding trie_in
trie_empty s z = rw (eq-eqb (get_or s 0 0) 0 z) refl

-- another is that of the root
pub root_of : (s : List ℕ) → AllBytes s → length s < 2 ^ 64 → RightImage s → (get_or s 0 0 ≡ 0 → ⊥) → RootHere s
root_of s a l h z = here_root s a l h.nodes h.entries h.read z
