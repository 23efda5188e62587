-- Kind 2: a node with 9 to 96 children is read back. Assumes nothing.
use Prim.Native.Nat.{◌*◌, ◌+◌, ◌-◌, ◌<◌, ◌^◌, ◌≤◌, suc, zero, ℕ}
use native.Mathlib.Nat.{add-zero}
use native.Mathlib.Omega.{arith}
use mathlib.Core.Bool.{Bool, cond, false, true}
use mathlib.Core.List.{List, [], ◌++◌, ◌∷◌}
use mathlib.Core.Path.{◌∙◌, ◌≡◌, refl, subst, sym}
use lib.Dec.{eqb}
use lib.ListN.{get_or, length, length-append}
use borrow.Author.Tests.{eq-eqb, eqb-false, eqb-true, ne_eqb}
use Rattle.words.proofs.Parts.{length_bytes64}
use Rattle.words.specs.Words.{bytes64, le64}
use Rattle.words.specs.Holding.{Holds}
use Rattle.words.proofs.Holding.{holds_at, holds_le, holds_left, holds_right}
use Rattle.trie.specs.Trie.{Lists, entries_of}
use Rattle.image_format.proofs.ByByte.{Bytes, One, absent_at, all_entries, all_nodes, all_size, at_read, below_most, below_on, below_zero, just, nobody, one_at}
use Rattle.image_format.proofs.Holding.{holds_head}
use Rattle.kinds.proofs.KindRule.{fits_two, kind_two}
use Rattle.image_format.proofs.KindThree.{AllRead, BytesAt, Distinct, fault_free, find_absent}
use Rattle.image_format.proofs.Nodes.{child_node, child_skip, end_sparse, node_done}
use Rattle.image_format.proofs.Tables.{open_ready, slot_byte, slot_skip}
use Rattle.image_format.specs.Image.{Child, ascending, children_bytes, children_size, entries_in, lists_bytes, lists_size, node_bytes, node_size, nodes_in, size_below, table_by_byte, table_bytes, table_size, with_byte}
use Rattle.image_format.specs.Reading.{Table, all_met, behind, done, find_byte, open_table, read_child, read_node, read_table, read_turns, sparse_table, table, table_fault}

-- bytes and offsets of the table, from number j on; `at` is where the children begin
unfoldable pub OffsAt : List ℕ → ℕ → ℕ → List Child → ℕ → List Child → Type 0
OffsAt s base at all j [] = Unit
OffsAt s base at all j (k ∷ ks) = (get_or s (base + j * 9) 0 ≡ k.byte) × (at + size_below k.byte all ≡ le64 s (base + j * 9 + 1)) × OffsAt s base at all (j + 1) ks

offs_bytes : (s : List ℕ) (base at j : ℕ) (all ks : List Child) → OffsAt s base at all j ks → BytesAt s base j ks
unfolding OffsAt BytesAt
offs_bytes s base at j all [] h = tt
offs_bytes s base at j all (k ∷ ks) h = (h.0, offs_bytes s base at (j + 1) all ks h.2)

pub offs_length : (at : ℕ) (all ks : List Child) → length (table_by_byte at all ks) ≡ length ks * 9
unfolding table_by_byte
offs_length at all [] = refl
offs_length at all (k ∷ ks) = simp (length-append, length_bytes64) (omega (arith, offs_length at all ks))

pub offs_holds : (s : List ℕ) (base at j : ℕ) (all ks : List Child) → length s < 2 ^ 64 → ((b : ℕ) → at + size_below b all ≤ length s) →
    Holds s (base + j * 9) (table_by_byte at all ks) → OffsAt s base at all j ks
unfolding Holds table_by_byte OffsAt
offs_holds s base at j all [] b f h = tt
offs_holds s base at j all (k ∷ ks) b f h =
    let o = at + size_below k.byte all in
    let m = f k.byte in
    let r = holds_right s (base + j * 9 + 1) 8 (bytes64 o) (table_by_byte at all ks) (length_bytes64 o) h.1 in (
      h.0,
      holds_le s (base + j * 9 + 1) o (omega arith) (holds_left s (base + j * 9 + 1) (bytes64 o) (table_by_byte at all ks) h.1),
      offs_holds s base at (j + 1) all ks b f (holds_at s (base + j * 9 + 1 + 8) (base + (j + 1) * 9) (table_by_byte at all ks) (omega arith) r),
    )

-- a byte that a child has is found, with its offset
found : (s : List ℕ) (base at j b : ℕ) (all ks : List Child) (k : Child) (r : List Child) → OffsAt s base at all j ks → with_byte b ks ≡ k ∷ r →
    (i : ℕ) × (i ≡ find_byte s base b (length ks) j) × (i < j + length ks) × (at + size_below b all ≡ le64 s (base + i * 9 + 1))
unfolding OffsAt with_byte find_byte
found s base at j b all [] k r h e = absurd (let z : ◌≡◌ {A = ℕ} 0 1 = nil_cons e in omega arith)
  where
    nil_cons : {x : Child} {xs : List Child} → [] ≡ x ∷ xs → ◌≡◌ {A = ℕ} 0 1
    nil_cons g = cc
found s base at j b all (x ∷ ks) k r h e = go (eqb x.byte b) refl e (λ f. found s base at (j + 1) b all ks k r h.2 f)
  where
    go : (q : Bool) → eqb x.byte b ≡ q → cond q (x ∷ with_byte b ks) (with_byte b ks) ≡ k ∷ r →
        (with_byte b ks ≡ k ∷ r → (i : ℕ) × (i ≡ find_byte s base b (length ks) (j + 1)) × (i < j + 1 + length ks) × (at + size_below b all ≡ le64 s (base + i * 9 + 1))) →
        (i : ℕ) × (i ≡ cond (eqb (get_or s (base + j * 9) 0) b) j (find_byte s base b (length ks) (j + 1))) × (i < j + suc (length ks)) × (at + size_below b all ≡ le64 s (base + i * 9 + 1))
    go true f g ih =
        let y = eqb-true x.byte b f in
        let z : get_or s (base + j * 9) 0 ≡ b = h.0 ∙ y in
        (j, simp (eq-eqb _ _ z), omega arith, subst (λ (n : ℕ). at + size_below n all ≡ le64 s (base + j * 9 + 1)) y h.1)
    go false f g ih =
        let y = eqb-false x.byte b f in
        let z : get_or s (base + j * 9) 0 ≡ b → ⊥ = λ w. y (sym h.0 ∙ w) in
        let w = ih g in
        (w.0, simp (ne_eqb _ _ z) w.1, omega (arith, w.2), w.3)

module _ (s : List ℕ) (d : ℕ) (p : Table) (ks : List Child) (start : ℕ) (small : length s < 2 ^ 64) (three : p.kind ≡ 3 → ⊥) (one : p.kind ≡ 1 → ⊥)
    (many : p.count ≡ length ks) (apart : Distinct [] ks) (reads : AllRead d ks) (offs : OffsAt s p.base start ks 0 ks) where
  -- a turn at a byte that no child has
  turn_none : (b at : ℕ) → with_byte b ks ≡ [] → done at 0 0 0 ≡ read_child s (read_node s d) p b at
  turn_none b at o =
      let a = find_absent s p.base b 0 ks (offs_bytes s p.base start 0 ks ks offs) (absent_at b ks o) in
      let j : length ks ≡ find_byte s p.base b p.count 0 = rw many (omega arith) in
      child_skip s (read_node s d) p b at (slot_skip s p b one three (length ks) j (omega arith))

  -- a turn at a child's byte
  turn_some : (b at : ℕ) (k : Child) (rest : List ℕ) → with_byte b ks ≡ k ∷ [] → at ≡ start + size_below b ks → at + 1 + k.size ≤ length s →
      Holds s at (1 ∷ (k.bytes (at + 1) ++ rest)) →
      (done (at + (1 + k.size)) 1 k.nodes k.entries ≡ read_child s (read_node s d) p b at) × Holds s (at + (1 + k.size)) rest
  unfolding Holds AllRead
  turn_some b at k rest o f g h =
      let x : AllRead d (k ∷ []) = subst (AllRead d) o (at_read d b ks reads) in
      let w = found s p.base start 0 b ks ks k [] offs o in
      let j : w.0 ≡ find_byte s p.base b p.count 0 = rw many w.1 in
      let z : at + 1 + k.size ≡ at + (1 + k.size) = omega arith in
      let kb = holds_left s (at + 1) (k.bytes (at + 1)) rest h.1 in
      let kr = holds_right s (at + 1) k.size (k.bytes (at + 1)) rest (x.0.sized (at + 1)) h.1 in
      let r : done (at + 1 + k.size) 1 k.nodes k.entries ≡ read_node s d (at + 1) = x.0.back s (at + 1) small g kb in (
        rw z at r ∙ child_node s (read_node s d) p b at (le64 s (p.base + w.0 * 9 + 1)) (slot_byte s p b one three w.0 j (omega (arith, w.2))) (sym (f ∙ w.3)) (omega arith) h.0,
        holds_at s (at + 1 + k.size) (at + (1 + k.size)) rest z kr,
      )

  run_bytes : (m b at c n e : ℕ) → at ≡ start + size_below b ks → at + children_size (ascending m b ks) ≤ length s → Holds s at (children_bytes at (ascending m b ks)) →
      all_met p (at + children_size (ascending m b ks)) (c + length (ascending m b ks)) (n + nodes_in (ascending m b ks)) (e + entries_in (ascending m b ks)) ≡
      read_turns s (read_node s d) p m b at c n e
  unfolding ascending children_size nodes_in entries_in read_turns children_bytes
  run_bytes zero b at c n e f g h = simp add-zero
  run_bytes (suc m) b at c n e f g h =
      go (one_at b [] ks apart) g h (λ at' c' n' e'. run_bytes m (b + 1) at' c' n' e')
    where
      go : One b ks →
          at + children_size (with_byte b ks ++ ascending m (b + 1) ks) ≤ length s → Holds s at (children_bytes at (with_byte b ks ++ ascending m (b + 1) ks)) →
          ((at' c' n' e' : ℕ) → at' ≡ start + size_below (b + 1) ks → at' + children_size (ascending m (b + 1) ks) ≤ length s → Holds s at' (children_bytes at' (ascending m (b + 1) ks)) →
          all_met p (at' + children_size (ascending m (b + 1) ks)) (c' + length (ascending m (b + 1) ks)) (n' + nodes_in (ascending m (b + 1) ks)) (e' + entries_in (ascending m (b + 1) ks)) ≡
          read_turns s (read_node s d) p m (b + 1) at' c' n' e') →
          all_met p (at + children_size (with_byte b ks ++ ascending m (b + 1) ks)) (c + length (with_byte b ks ++ ascending m (b + 1) ks)) (n + nodes_in (with_byte b ks ++ ascending m (b + 1) ks)) (e + entries_in (with_byte b ks ++ ascending m (b + 1) ks)) ≡
          behind (read_child s (read_node s d) p b at) (λ next k a x. read_turns s (read_node s d) p m (b + 1) next (c + k) (n + a) (e + x))
      go (nobody o) g h ih =
          let u : size_below (b + 1) ks ≡ size_below b ks + children_size [] = rw o at (below_on b ks) in
          rw (o, ← turn_none b at o) (simp add-zero (ih at c n e (omega arith) (rw o at g) (rw o at h)))
      go (just k o) g h ih =
          let rest = ascending m (b + 1) ks in
          let at' = at + (1 + k.size) in
          let u : size_below (b + 1) ks ≡ size_below b ks + children_size (k ∷ []) = rw o at (below_on b ks) in
          let g' : at + (1 + k.size + children_size rest) ≤ length s = rw o at g in
          let h' : Holds s at (1 ∷ (k.bytes (at + 1) ++ children_bytes at' rest)) = rw o at h in
          let t = turn_some b at k (children_bytes at' rest) o f (omega arith) h' in
          let e1 : at + (1 + k.size + children_size rest) ≡ at' + children_size rest = omega arith in
          let e2 : c + suc (length rest) ≡ c + 1 + length rest = omega arith in
          let e3 : n + (k.nodes + nodes_in rest) ≡ n + k.nodes + nodes_in rest = omega arith in
          let e4 : e + (k.entries + entries_in rest) ≡ e + k.entries + entries_in rest = omega arith in
          rw (o, e1, e2, e3, e4, ← t.0) (ih at' (c + 1) (n + k.nodes) (e + k.entries) (omega arith) (omega arith) t.1)

module _ (s : List ℕ) (d at : ℕ) (h : Lists) (ks : List Child) (over : 8 < length ks) (few : length ks ≤ 96) (bytes : Bytes ks) (apart : Distinct [] ks) (reads : AllRead d ks) where
  pub size_two : node_size h ks ≡ 1 + lists_size h + (8 + length ks * 9 + children_size (ascending 256 0 ks))
  unfolding node_size table_size
  size_two = simp (kind_two _ over few)

  pub bytes_two : node_bytes at h ks ≡
      2 ∷ (lists_bytes h ++ (bytes64 (length ks) ++ (table_by_byte (at + 1 + lists_size h + 8 + length ks * 9) ks ks ++ children_bytes (at + 1 + lists_size h + 8 + length ks * 9) (ascending 256 0 ks))))
  unfolding node_bytes table_bytes
  bytes_two = simp (kind_two _ over few)

  pub back_two : length s < 2 ^ 64 → at + node_size h ks ≤ length s → Holds s at (node_bytes at h ks) →
      done (at + node_size h ks) 1 (nodes_in ks + 1) (entries_of h + entries_in ks) ≡ read_node s (suc d) at
  unfolding read_table BytesAt
  back_two b f g =
      let n = length ks in
      let asc = ascending 256 0 ks in
      let a1 = at + 1 + lists_size h in
      let a2 = a1 + 8 in
      let a3 = a2 + n * 9 in
      let sz = size_two in
      let asz = all_size ks bytes in
      let rest = bytes64 n ++ (table_by_byte a3 ks ks ++ children_bytes a3 asc) in
      let g' : Holds s at (2 ∷ (lists_bytes h ++ rest)) = subst (Holds s at) bytes_two g in
      let hd = holds_head s at 2 h rest b (omega arith) (omega arith) (omega arith) g' in
      let hn = holds_le s a1 n (omega arith) (holds_left s a1 (bytes64 n) (table_by_byte a3 ks ks ++ children_bytes a3 asc) hd.1) in
      let ht = holds_right s a1 8 (bytes64 n) (table_by_byte a3 ks ks ++ children_bytes a3 asc) (length_bytes64 n) hd.1 in
      let z : a2 ≡ a2 + 0 * 9 = omega arith in
      let most : (x : ℕ) → a3 + size_below x ks ≤ length s = λ x. omega (arith, below_most x ks) in
      let tb : OffsAt s a2 a3 ks 0 ks = offs_holds s a2 a3 0 ks ks b most (holds_at s a2 (a2 + 0 * 9) (table_by_byte a3 ks ks) z (holds_left s a2 (table_by_byte a3 ks ks) (children_bytes a3 asc) ht)) in
      let hk : Holds s a3 (children_bytes a3 asc) = holds_right s a2 (n * 9) (table_by_byte a3 ks ks) (children_bytes a3 asc) (offs_length a3 ks ks) ht in
      let ff : 0 ≡ table_fault s a2 n 0 = fault_free s a2 [] ks (omega arith) tt (offs_bytes s a2 a3 0 ks ks tb) apart in
      let p = sparse_table 2 a1 n in
      let op : table p ≡ open_table s 2 a1 = open_ready s 2 a1 (omega arith) n 0 hn (omega arith) (fits_two n over few) ff refl in
      let run = run_bytes s d p ks a3 b (omega arith) (omega arith) refl apart reads tb 256 0 a3 0 0 0 (omega (arith, below_zero ks)) (omega arith) hk in
      let en = end_sparse p (a3 + children_size asc) (0 + length asc) (0 + nodes_in asc) (0 + entries_in asc) (omega arith) in
      let e1 : at + node_size h ks ≡ a3 + children_size asc = omega arith in
      let e2 : nodes_in ks ≡ 0 + nodes_in asc = omega (arith, all_nodes ks bytes) in
      let e3 : entries_in ks ≡ 0 + entries_in asc = omega (arith, all_entries ks bytes) in
      let l : suc d - 1 ≡ d = omega arith in
      let tab : done (a3 + children_size asc) 1 (0 + nodes_in asc) (0 + entries_in asc) ≡ read_table s (read_node s (suc d - 1)) p = rw l (en ∙ run) in
      rw (e1, e2, e3) (node_done s (suc d) at (omega arith) 2 a1 (entries_of h) p (a3 + children_size asc) 1 (0 + nodes_in asc) (0 + entries_in asc) hd.0 op tab)
