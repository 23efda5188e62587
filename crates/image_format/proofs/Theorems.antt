-- What is saved is read back, and what is read right is what was saved. Assumes nothing.
use Prim.Native.Nat.{◌*◌, ◌+◌, ◌<◌, ◌^◌, ◌≤◌, suc, zero, ℕ}
use native.Mathlib.Omega.{arith}
use mathlib.Core.Bool.{Bool, cond, false, true}
use mathlib.Core.List.{List, [], ◌++◌, ◌∷◌}
use mathlib.Core.Path.{◌∙◌, ◌≡◌, ap, refl, subst, sym}
use lib.Dec.{eqb, leb}
use lib.ListN.{get_or, length, replicate}
use lib.Seq.{ext_get_or}
use borrow.Author.Tests.{eq-eqb, eqb-false, eqb-true, ne_eqb}
use Rattle.words.proofs.Parts.{length_bytes64}
use Rattle.words.specs.Words.{bytes64, le64}
use Rattle.words.specs.Holding.{Holds}
use Rattle.words.proofs.Holding.{holds_append, holds_get}
use Rattle.trie.specs.Trie.{Lists, Node, Trie, empty, entries, entries_of, forest_entries, forest_nodes, leaf, nodes, root}
use Rattle.image_format.proofs.ByByte.{Bytes, at_most}
use Rattle.image_format.proofs.BytesRead.{holds_read}
use Rattle.image_format.proofs.EndedWell.{never}
use Rattle.kinds.proofs.KindRule.{Fits, fits_view, one, some_range, three, two}
use Rattle.image_format.proofs.KindThree.{Distinct}
use Rattle.image_format.proofs.NodeSound.{child_sound}
use Rattle.image_format.proofs.ReadBack.{Limits, all_read, holds_in, node_back, node_length}
use Rattle.image_format.proofs.Roots.{image_right, root_node}
use Rattle.image_format.proofs.Shapes.{count_entries, count_nodes, fitting, node_fits, shaped_of}
use Rattle.image_format.proofs.TrieBack.{node_held}
use Rattle.image_format.specs.Held.{node_in, trie_in}
use Rattle.image_format.specs.Image.{Child, children_of, entries_in, image, node_bytes, node_size, nodes_in}
use Rattle.kinds.specs.Kinds.{fits, kind_of}
use Rattle.image_format.specs.Reading.{Step, done, fault, read_counts, read_image, read_node, read_root, refused, right, to_the_end}
use Rattle.image_format.specs.Savable.{AllBytes, Savable, Shaped, ShapedNode}
use Rattle.image_format.specs.Promises.{ImageRead, ReadImageIs}

-- ── the trie of an image, by its first byte ──

held_node : (s : List ℕ) → (get_or s 0 0 ≡ 0 → ⊥) → trie_in s ≡ root (node_in s 16 0)
unfolding trie_in
held_node s z = simp (ne_eqb _ _ z)

held_none : (s : List ℕ) → get_or s 0 0 ≡ 0 → trie_in s ≡ empty
unfolding trie_in
held_none s z = simp (eq-eqb _ _ z)

-- ── what is saved is read back ──

read_none : read_image (replicate 25 0) ≡ right 1 0
unfolding read_image read_root read_counts le64
read_none = refl

first_byte : (s : List ℕ) (h : Lists) (ks : List Child) → Bytes ks → Distinct [] ks → Holds s 0 (node_bytes 0 h ks) → get_or s 0 0 ≡ 0 → ⊥
unfolding node_bytes Holds
first_byte s h ks b a g z = no_kind (some_range (length ks) (at_most ks b a)) (sym g.0 ∙ z)
  where
    never_kind : Fits 0 (length ks) → ⊥
    never_kind (three x y) = omega arith
    never_kind (two x y w) = omega arith
    never_kind (one x y w) = omega arith

    no_kind : fits (kind_of (length ks)) (length ks) ≡ true → kind_of (length ks) ≡ 0 → ⊥
    no_kind f e = never_kind (fits_view 0 (length ks) (rw e at f))

node_some : (h : Lists) (ks : List Child) → 1 ≤ node_size h ks
unfolding node_size
node_some h ks = omega arith

node_read : (n : Node) → ShapedNode n → length (image (root n)) < 2 ^ 64 → (read_image (image (root n)) ≡ right (nodes (root n)) (entries (root n))) × (trie_in (image (root n)) ≡ root n)
unfolding image
node_read n p m =
    let f = fitting n p in
    let h = n.lists in
    let c = n.children in
    let ks = children_of c in
    let s = node_bytes 0 h ks in
    let r = all_read 16 c f.limits in
    let len : length s ≡ node_size h ks = node_length 16 0 h ks r in
    let w : Holds s 0 s = holds_in [] s in
    let z = first_byte s h ks f.bytes f.distinct w in
    let l : length s ≡ 0 → ⊥ = omega (arith, node_some h ks) in
    let end : 0 + node_size h ks ≡ length s = omega arith in
    let cn : nodes_in ks + 1 ≡ suc (forest_nodes c) = omega (arith, count_nodes c) in
    let ce : entries_of h + entries_in ks ≡ entries_of h + forest_entries c = omega (arith, count_entries c) in
    let back = node_back s 16 0 h ks f.bytes f.distinct r m (omega arith) w in
    let back' : done (length s) 1 (suc (forest_nodes c)) (entries_of h + forest_entries c) ≡ read_root s = rw (end, cn, ce) at back ∙ root_node s l z in (
      sym (image_right s (length s) 1 (suc (forest_nodes c)) (entries_of h + forest_entries c) back' refl),
      held_node s z ∙ ap root (node_held s 16 0 h c p.lists p.all_lists f.limits f.bytes f.distinct f.up m (omega arith) w),
    )

pub image_read : ImageRead
unfolding image
image_read empty v = (read_none, held_none (replicate 25 0) refl)
image_read (root n) v = node_read n v.shaped v.size

-- ── what is read right is what was saved ──

-- what a root that was read to the end was read as
data RootRead (s : List ℕ) (n e : ℕ) : Type 0 where
  none_there : get_or s 0 0 ≡ 0 → (k : ℕ) → done (length s) k n e ≡ read_counts s 3 1 → RootRead s n e
  node_there : (get_or s 0 0 ≡ 0 → ⊥) → (k : ℕ) → done (length s) k n e ≡ read_node s 17 0 → RootRead s n e

refused_never : {A : Type 0} {n e c : ℕ} → refused c ≡ right n e → A
refused_never f = absurd (let z : ◌≡◌ {A = ℕ} 0 1 = cc in omega arith)

root_read : (s : List ℕ) (n e : ℕ) → read_image s ≡ right n e → RootRead s n e
unfolding read_image read_root
root_read s n e f = go (eqb (length s) 0) (eqb (get_or s 0 0) 0) refl f
  where
    ends : (v : Step) → to_the_end s v ≡ right n e → (k : ℕ) × (done (length s) k n e ≡ v)
    ends (fault c) g = refused_never g
    ends (done next c n' e') g = last (eqb next (length s)) refl g
      where
        last : (b : Bool) → eqb next (length s) ≡ b → cond b (right n' e') (refused 15) ≡ right n e → (k : ℕ) × (done (length s) k n e ≡ done next c n' e')
        last false x y = refused_never y
        last true x y =
            let p : next ≡ length s = eqb-true next (length s) x in
            let q : n' ≡ n = cc in
            let r : e' ≡ e = cc in
            (c, rw (p, q, r) refl)

    go : (a b : Bool) → eqb (get_or s 0 0) 0 ≡ b → to_the_end s (cond a (fault 13) (cond b (read_counts s 3 1) (read_node s 17 0))) ≡ right n e → RootRead s n e
    go true b x g = refused_never g
    go false true x g = let w = ends (read_counts s 3 1) g in none_there (eqb-true (get_or s 0 0) 0 x) w.0 w.1
    go false false x g = let w = ends (read_node s 17 0) g in node_there (eqb-false (get_or s 0 0) 0 x) w.0 w.1

-- a list of bytes is what it holds from its first byte to its end
all_held : (s xs : List ℕ) → Holds s 0 xs → length xs ≡ length s → xs ≡ s
all_held s xs h l = ext_get_or 0 xs s l (λ i g. let z : 0 + i ≡ i = omega arith in rw z at (holds_get s 0 xs i h g))

zeros : ℕ → List ℕ
zeros zero = []
zeros (suc m) = bytes64 0 ++ zeros m

counts_inv : (s : List ℕ) → AllBytes s → (m at next k n e : ℕ) → done next k n e ≡ read_counts s m at → Holds s at (zeros m) × (next ≡ at + 8 * m)
unfolding read_counts zeros Holds
counts_inv s a zero at next k n e f =
    let x : next ≡ at = cc in
    (tt, omega arith)
counts_inv s a (suc m) at next k n e f = go (leb (at + 8) (length s)) (eqb (le64 s at) 0) refl f (λ g. counts_inv s a m (at + 8) next k n e g)
  where
    go : (p q : Bool) → eqb (le64 s at) 0 ≡ q → done next k n e ≡ cond p (cond q (read_counts s m (at + 8)) (fault 15)) (fault 13) →
        (done next k n e ≡ read_counts s m (at + 8) → Holds s (at + 8) (zeros m) × (next ≡ at + 8 + 8 * m)) →
        Holds s at (bytes64 0 ++ zeros m) × (next ≡ at + 8 * suc m)
    go false q x g ih = never g
    go true false x g ih = never g
    go true true x g ih =
        let r = ih g in
        let z = eqb-true (le64 s at) 0 x in
        let b : Holds s at (bytes64 0) = subst (λ (v : ℕ). Holds s at (bytes64 v)) z (holds_read s at a) in
        (holds_append s at 8 (bytes64 0) (zeros m) (length_bytes64 0) b r.0, omega (arith, r.1))

zeros_are : replicate 25 0 ≡ 0 ∷ zeros 3
unfolding zeros bytes64
zeros_are = refl

none_is : (s : List ℕ) → AllBytes s → (k n e : ℕ) → get_or s 0 0 ≡ 0 → done (length s) k n e ≡ read_counts s 3 1 → image empty ≡ s
unfolding Holds image
none_is s a k n e z f =
    let r = counts_inv s a 3 1 (length s) k n e f in
    let w : Holds s 0 (0 ∷ zeros 3) = (z, r.0) in
    let l : length (0 ∷ zeros 3) ≡ length s = ap length (sym zeros_are) ∙ sym r.1 in
    zeros_are ∙ all_held s (0 ∷ zeros 3) w l

-- what a root that was read says of the node that it holds
node_is : (s : List ℕ) → AllBytes s → (k n e : ℕ) → done (length s) k n e ≡ read_node s 17 0 → (image (root (node_in s 16 0)) ≡ s) × ShapedNode (node_in s 16 0)
unfolding image Limits
node_is s a k n e f =
    let K = child_sound s a 17 0 (length s) k n e f in
    let t = node_in s 16 0 in
    let xs = node_bytes 0 t.lists (children_of t.children) in
    let l : length xs ≡ length s = K.sized 0 ∙ omega (arith, K.ends) in
    let g = K.grow 0 leaf (omega arith) tt in
    let fits = node_fits s a 16 0 in
    (all_held s xs K.holds l, shaped_of t fits.lists fits.all_lists (record { limits = g.3; bytes = g.0; distinct = g.1; up = g.2 }))

pub read_image_is : ReadImageIs
read_image_is s a m n e f = go (root_read s n e f)
  where
    same : {x y z w : ℕ} → right x y ≡ right z w → (x ≡ z) × (y ≡ w)
    same g = (cc, cc)

    counted : (t : Trie) → trie_in s ≡ t → image t ≡ s → Shaped t → (image (trie_in s) ≡ s) × (nodes (trie_in s) ≡ n) × (entries (trie_in s) ≡ e) × Savable (trie_in s)
    counted t q i h =
        let small : length (image t) < 2 ^ 64 = rw i m in
        let v : Savable t = record { shaped = h; size = small } in
        let r = (image_read t v).0 in
        let c = same (sym r ∙ ap read_image i ∙ f) in
        rw q (i, c.0, c.1, v)

    go : RootRead s n e → (image (trie_in s) ≡ s) × (nodes (trie_in s) ≡ n) × (entries (trie_in s) ≡ e) × Savable (trie_in s)
    go (none_there z k g) = counted empty (held_none s z) (none_is s a k n e z g) tt
    go (node_there z k g) = let w = node_is s a k n e g in counted (root (node_in s 16 0)) (held_node s z) w.0 w.1
