-- Kind 3: children that were read are those of the table. Assumes nothing.
use Prim.Native.Nat.{◌*◌, ◌+◌, suc, zero, ℕ}
use native.Mathlib.Omega.{arith}
use mathlib.Core.List.{List, [], ◌++◌, ◌∷◌}
use mathlib.Core.Path.{◌≡◌, refl, subst, sym}
use lib.ListN.{get_or}
use Rattle.words.proofs.Parts.{length_bytes64}
use Rattle.words.specs.Words.{bytes64, le64}
use Rattle.words.specs.Holding.{Holds}
use Rattle.words.proofs.Holding.{holds_append, holds_at}
use Rattle.trie.specs.Trie.{Node, more}
use Rattle.image_format.proofs.BytesRead.{holds_read}
use Rattle.image_format.proofs.EndedWell.{Turned, by_gap, by_node, child_at, run_last, run_turn}
use Rattle.image_format.proofs.KindThree.{TableAt}
use Rattle.image_format.proofs.ReadBack.{Limits}
use Rattle.image_format.proofs.Sound.{Sound}
use Rattle.image_format.proofs.Tables.{slot_arrival}
use Rattle.image_format.specs.Held.{forest_by, sparse_entries}
use Rattle.image_format.specs.Image.{Child, as_child, children_bytes, children_of, children_size, node_bytes, node_size, table_by_arrival}
use Rattle.image_format.specs.Reading.{Table, done, read_node, read_turns}
use Rattle.image_format.specs.Savable.{AllBytes}

module _ (s : List ℕ) (all : AllBytes s) (d : ℕ) (T : ℕ → Node)
    (snd : (x next k n e : ℕ) → done next k n e ≡ read_node s d x → Sound s d x next (T x)) where
  -- kind 3, from number j of the table on
  pub three_inv : (p : Table) (m j at c n e end k' n' e' : ℕ) → p.kind ≡ 3 → done end k' n' e' ≡ read_turns s (read_node s d) p m j at c n e →
      Limits d (forest_by T (sparse_entries s p.base m j)) ×
      TableAt s p.base j at (children_of (forest_by T (sparse_entries s p.base m j))) ×
      Holds s at (children_bytes at (children_of (forest_by T (sparse_entries s p.base m j)))) ×
      (end ≡ at + children_size (children_of (forest_by T (sparse_entries s p.base m j))))
  unfolding Limits TableAt Holds forest_by sparse_entries children_of as_child children_bytes children_size
  three_inv p zero j at c n e end k' n' e' q f =
      let w = run_last s (read_node s d) p j at c n e end k' n' e' f in
      (tt, tt, tt, omega (arith, w.0))
  three_inv p (suc m) j at c n e end k' n' e' q f =
      let r = run_turn s (read_node s d) p m j at c n e end k' n' e' f in
      let one : p.kind ≡ 1 → ⊥ = omega arith in
      let off = le64 s (p.base + j * 9 + 1) in
      let t = child_at s (read_node s d) p j at r.0 r.1 r.2 r.3 off (slot_arrival s p j one q) r.4 in
      go t.0 t.1 (three_inv p m (j + 1) r.0 (c + r.1) (n + r.2) (e + r.3) end k' n' e' q r.5)
    where
      go : {next k a b : ℕ} → le64 s (p.base + j * 9 + 1) ≡ at → Turned s (read_node s d) p.kind at next k a b →
          Limits d (forest_by T (sparse_entries s p.base m (j + 1))) × TableAt s p.base (j + 1) next (children_of (forest_by T (sparse_entries s p.base m (j + 1)))) ×
          Holds s next (children_bytes next (children_of (forest_by T (sparse_entries s p.base m (j + 1))))) × (end ≡ next + children_size (children_of (forest_by T (sparse_entries s p.base m (j + 1))))) →
          Limits d (forest_by T (sparse_entries s p.base (suc m) j)) × TableAt s p.base j at (children_of (forest_by T (sparse_entries s p.base (suc m) j))) ×
          Holds s at (children_bytes at (children_of (forest_by T (sparse_entries s p.base (suc m) j)))) × (end ≡ at + children_size (children_of (forest_by T (sparse_entries s p.base (suc m) j))))
      go {next} {k} {a} {b} o (by_gap l z u v w) ih = absurd (omega (arith, u))
      go {next} {k} {a} {b} o (by_node l z u) ih =
          let K = snd (at + 1) next k a b u in
          let h = (T (at + 1)).lists in
          let ks = children_of (T (at + 1)).children in
          let rs = children_of (forest_by T (sparse_entries s p.base m (j + 1))) in
          let at' = at + (1 + node_size h ks) in
          let z1 : next ≡ at' = omega (arith, K.ends) in
          let i1 : TableAt s p.base (j + 1) at' rs = subst (λ (x : ℕ). TableAt s p.base (j + 1) x rs) z1 ih.1 in
          let i2 : Holds s at' (children_bytes at' rs) = subst (λ (x : ℕ). Holds s x (children_bytes x rs)) z1 ih.2 in
          let i3 : end ≡ at + (1 + node_size h ks + children_size rs) = omega (arith, ih.3) in
          subst
          (λ (x : ℕ). Limits d (more (get_or s (p.base + j * 9) 0) (T (x + 1)).lists (T (x + 1)).children (forest_by T (sparse_entries s p.base m (j + 1)))) ×
          ((get_or s (p.base + j * 9) 0 ≡ get_or s (p.base + j * 9) 0) × (at ≡ x) × TableAt s p.base (j + 1) (at + (1 + node_size (T (x + 1)).lists (children_of (T (x + 1)).children))) rs) ×
          ((get_or s at 0 ≡ 1) × Holds s (at + 1) (node_bytes (at + 1) (T (x + 1)).lists (children_of (T (x + 1)).children) ++ children_bytes (at + (1 + node_size (T (x + 1)).lists (children_of (T (x + 1)).children))) rs)) ×
          (end ≡ at + (1 + node_size (T (x + 1)).lists (children_of (T (x + 1)).children) + children_size rs)))
          (sym o) (
            K.grow (get_or s (p.base + j * 9) 0) (forest_by T (sparse_entries s p.base m (j + 1))) (all (p.base + j * 9)) ih.0,
            (refl, refl, i1),
            (
              z,
              holds_append s (at + 1) (node_size h ks) (node_bytes (at + 1) h ks) (children_bytes at' rs) (K.sized (at + 1)) K.holds
                  (holds_at s at' (at + 1 + node_size h ks) (children_bytes at' rs) (omega arith) i2),
            ),
            i3,
          )

-- the table's own bytes
pub table_back : (s : List ℕ) → AllBytes s → (base j at : ℕ) (ks : List Child) → TableAt s base j at ks → Holds s (base + j * 9) (table_by_arrival at ks)
unfolding TableAt Holds table_by_arrival
table_back s all base j at [] t = tt
table_back s all base j at (k ∷ ks) t =
    let l = table_by_arrival (at + (1 + k.size)) ks in
    let n : Holds s (base + j * 9 + 1) (bytes64 at) = subst (λ (x : ℕ). Holds s (base + j * 9 + 1) (bytes64 x)) (sym t.1) (holds_read s (base + j * 9 + 1) all) in (
      t.0,
      holds_append s (base + j * 9 + 1) 8 (bytes64 at) l (length_bytes64 at) n
          (holds_at s (base + (j + 1) * 9) (base + j * 9 + 1 + 8) l (omega arith) (table_back s all base (j + 1) (at + (1 + k.size)) ks t.2)),
    )
