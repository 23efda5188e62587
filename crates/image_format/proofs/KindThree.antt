-- Kind 3: a node with up to eight children is read back. Assumes nothing.
use Prim.Native.Nat.{◌*◌, ◌+◌, ◌-◌, ◌<◌, ◌^◌, ◌≤◌, suc, ℕ}
use native.Mathlib.Nat.{add-zero}
use native.Mathlib.Omega.{arith}
use mathlib.Core.List.{List, [], ◌++◌, ◌∷◌}
use mathlib.Core.Path.{◌∙◌, ◌≡◌, refl, subst, sym}
use lib.ListN.{get_or, length, length-append}
use borrow.Author.Tests.{le-ltb, lt-leb, ne_eqb}
use Rattle.words.proofs.Parts.{length_bytes64}
use Rattle.words.specs.Words.{bytes64, le64}
use Rattle.words.specs.Holding.{Holds}
use Rattle.words.proofs.Holding.{holds_at, holds_le, holds_left, holds_right}
use Rattle.trie.specs.Trie.{Lists, entries_of}
use Rattle.image_format.proofs.Holding.{holds_head}
use Rattle.kinds.proofs.KindRule.{fits_three, kind_three}
use Rattle.image_format.proofs.Nodes.{child_node, end_sparse, node_done}
use Rattle.image_format.proofs.Tables.{open_ready, slot_arrival}
use Rattle.image_format.specs.Image.{Child, children_bytes, children_size, entries_in, lists_bytes, lists_size, node_bytes, node_size, nodes_in, table_by_arrival, table_bytes, table_size}
use Rattle.image_format.specs.Reading.{Table, all_met, done, find_byte, open_table, read_child, read_node, read_table, read_turns, sparse_table, table, table_fault}

-- no child of ks has the byte b
unfoldable pub Missing : ℕ → List Child → Type 0
Missing b [] = Unit
Missing b (k ∷ ks) = (k.byte ≡ b → ⊥) × Missing b ks

-- each child's byte is absent from those before it
unfoldable pub Distinct : List Child → List Child → Type 0
Distinct seen [] = Unit
Distinct seen (k ∷ ks) = Missing k.byte seen × Distinct (seen ++ (k ∷ [])) ks

-- the table's bytes, from number j on
unfoldable pub BytesAt : List ℕ → ℕ → ℕ → List Child → Type 0
BytesAt s base j [] = Unit
BytesAt s base j (k ∷ ks) = (get_or s (base + j * 9) 0 ≡ k.byte) × BytesAt s base (j + 1) ks

pub find_absent : (s : List ℕ) (base b j : ℕ) (ks : List Child) → BytesAt s base j ks → Missing b ks → find_byte s base b (length ks) j ≡ j + length ks
unfolding BytesAt Missing find_byte
find_absent s base b j [] h a = omega arith
find_absent s base b j (k ∷ ks) h a =
    let n : get_or s (base + j * 9) 0 ≡ b → ⊥ = λ e. a.0 (sym h.0 ∙ e) in
    let r = find_absent s base b (j + 1) ks h.1 a.1 in
    simp (ne_eqb _ _ n) (omega arith)

pub bytes_snoc : (s : List ℕ) (base j : ℕ) (seen : List Child) (k : Child) → BytesAt s base j seen → get_or s (base + (j + length seen) * 9) 0 ≡ k.byte →
    BytesAt s base j (seen ++ (k ∷ []))
unfolding BytesAt
bytes_snoc s base j [] k h e = (simp add-zero at e, tt)
bytes_snoc s base j (x ∷ xs) k h e =
    let f : j + suc (length xs) ≡ j + 1 + length xs = omega arith in
    (h.0, bytes_snoc s base (j + 1) xs k h.1 (rw f at e))

-- such a table has no fault
pub fault_free : (s : List ℕ) (base : ℕ) (seen rest : List Child) → base + (length seen + length rest) * 9 ≤ length s →
    BytesAt s base 0 seen → BytesAt s base (length seen) rest → Distinct seen rest → 0 ≡ table_fault s base (length rest) (length seen)
unfolding BytesAt Distinct table_fault
fault_free s base seen [] f a b d = refl
fault_free s base seen (k ∷ rest) f a b d =
    let i = length seen in
    let e : length (seen ++ (k ∷ [])) ≡ i + 1 = simp length-append (omega arith) in
    let z : get_or s (base + (0 + i) * 9) 0 ≡ k.byte = (let y : 0 + i ≡ i = omega arith in rw y b.0) in
    let ih : 0 ≡ table_fault s base (length rest) (i + 1) =
    rw e at (fault_free s base (seen ++ (k ∷ [])) rest (rw e (omega arith)) (bytes_snoc s base 0 seen k a z) (rw e b.1) d.1) in
    let u : find_byte s base k.byte i 0 ≡ i = find_absent s base k.byte 0 seen a d.0 ∙ omega arith in
    let g : i ≤ find_byte s base (get_or s (base + i * 9) 0) i 0 = rw (b.0, u) (omega arith) in
    let l : base + i * 9 < length s = omega arith in
    let m : base + i * 9 + 9 ≤ length s = omega arith in
    simp (lt-leb _ _ l, le-ltb _ _ g, le-ltb _ _ m) ih

-- kind 3: bytes and offsets of the table, from number j on
unfoldable pub TableAt : List ℕ → ℕ → ℕ → ℕ → List Child → Type 0
TableAt s base j at [] = Unit
TableAt s base j at (k ∷ ks) = (get_or s (base + j * 9) 0 ≡ k.byte) × (at ≡ le64 s (base + j * 9 + 1)) × TableAt s base (j + 1) (at + (1 + k.size)) ks

arrival_bytes : (s : List ℕ) (base j at : ℕ) (ks : List Child) → TableAt s base j at ks → BytesAt s base j ks
unfolding TableAt BytesAt
arrival_bytes s base j at [] h = tt
arrival_bytes s base j at (k ∷ ks) h = (h.0, arrival_bytes s base (j + 1) (at + (1 + k.size)) ks h.2)

pub table_length : (at : ℕ) (ks : List Child) → length (table_by_arrival at ks) ≡ length ks * 9
unfolding table_by_arrival
table_length at [] = refl
table_length at (k ∷ ks) = simp (length-append, length_bytes64) (omega (arith, table_length (at + (1 + k.size)) ks))

pub table_holds : (s : List ℕ) (base j at : ℕ) (ks : List Child) → length s < 2 ^ 64 → at + children_size ks ≤ length s →
    Holds s (base + j * 9) (table_by_arrival at ks) → TableAt s base j at ks
unfolding Holds table_by_arrival children_size TableAt
table_holds s base j at [] b f h = tt
table_holds s base j at (k ∷ ks) b f h =
    let r = holds_right s (base + j * 9 + 1) 8 (bytes64 at) (table_by_arrival (at + (1 + k.size)) ks) (length_bytes64 at) h.1 in (
      h.0,
      holds_le s (base + j * 9 + 1) at (omega arith) (holds_left s (base + j * 9 + 1) (bytes64 at) (table_by_arrival (at + (1 + k.size)) ks) h.1),
      table_holds s base (j + 1) (at + (1 + k.size)) ks b (omega arith)
          (holds_at s (base + j * 9 + 1 + 8) (base + (j + 1) * 9) (table_by_arrival (at + (1 + k.size)) ks) (omega arith) r),
    )

-- a child is as long as it says, and is read back with d levels
pub record Reads (d : ℕ) (k : Child) : Type 0 where
  pub sized : (at : ℕ) → length (k.bytes at) ≡ k.size
  pub back : (s : List ℕ) (at : ℕ) → length s < 2 ^ 64 → at + k.size ≤ length s → Holds s at (k.bytes at) →
      done (at + k.size) 1 k.nodes k.entries ≡ read_node s d at

unfoldable pub AllRead : ℕ → List Child → Type 0
AllRead d [] = Unit
AllRead d (k ∷ ks) = Reads d k × AllRead d ks

pub children_length : (d at : ℕ) (ks : List Child) → AllRead d ks → length (children_bytes at ks) ≡ children_size ks
unfolding AllRead children_bytes children_size
children_length d at [] x = refl
children_length d at (k ∷ ks) x = simp length-append (omega (arith, x.0.sized (at + 1), children_length d (at + (1 + k.size)) ks x.1))

run_arrival : (s : List ℕ) (d : ℕ) (p : Table) (i at c n e : ℕ) (ks : List Child) → length s < 2 ^ 64 → p.kind ≡ 3 → at + children_size ks ≤ length s →
    AllRead d ks → TableAt s p.base i at ks → Holds s at (children_bytes at ks) →
    all_met p (at + children_size ks) (c + length ks) (n + nodes_in ks) (e + entries_in ks) ≡ read_turns s (read_node s d) p (length ks) i at c n e
unfolding AllRead TableAt Holds children_bytes children_size nodes_in entries_in read_turns
run_arrival s d p i at c n e [] b q f x t h = simp add-zero
run_arrival s d p i at c n e (k ∷ ks) b q f x t h =
    let at' = at + (1 + k.size) in
    let z : at + 1 + k.size ≡ at' = omega arith in
    let one : p.kind ≡ 1 → ⊥ = omega arith in
    let kb = holds_left s (at + 1) (k.bytes (at + 1)) (children_bytes at' ks) h.1 in
    let kr = holds_right s (at + 1) k.size (k.bytes (at + 1)) (children_bytes at' ks) (x.0.sized (at + 1)) h.1 in
    let r : done (at + 1 + k.size) 1 k.nodes k.entries ≡ read_node s d (at + 1) = x.0.back s (at + 1) b (omega arith) kb in
    let ch : done at' 1 k.nodes k.entries ≡ read_child s (read_node s d) p i at =
    rw z at r ∙ child_node s (read_node s d) p i at (le64 s (p.base + i * 9 + 1)) (slot_arrival s p i one q) (sym t.1) (omega arith) h.0 in
    let ih = run_arrival s d p (i + 1) at' (c + 1) (n + k.nodes) (e + k.entries) ks b q (omega arith) x.1 t.2
    (holds_at s (at + 1 + k.size) at' (children_bytes at' ks) z kr) in
    let e1 : at + (1 + k.size + children_size ks) ≡ at' + children_size ks = omega arith in
    let e2 : c + suc (length ks) ≡ c + 1 + length ks = omega arith in
    let e3 : n + (k.nodes + nodes_in ks) ≡ n + k.nodes + nodes_in ks = omega arith in
    let e4 : e + (k.entries + entries_in ks) ≡ e + k.entries + entries_in ks = omega arith in
    rw (e1, e2, e3, e4, ← ch) ih

module _ (s : List ℕ) (d at : ℕ) (h : Lists) (ks : List Child) (few : length ks ≤ 8) (apart : Distinct [] ks) (reads : AllRead d ks) where
  pub size_three : node_size h ks ≡ 1 + lists_size h + (8 + length ks * 9 + children_size ks)
  unfolding node_size table_size
  size_three = simp (kind_three _ few)

  pub bytes_three : node_bytes at h ks ≡
      3 ∷ (lists_bytes h ++ (bytes64 (length ks) ++ (table_by_arrival (at + 1 + lists_size h + 8 + length ks * 9) ks ++ children_bytes (at + 1 + lists_size h + 8 + length ks * 9) ks)))
  unfolding node_bytes table_bytes
  bytes_three = simp (kind_three _ few)

  pub back_three : length s < 2 ^ 64 → at + node_size h ks ≤ length s → Holds s at (node_bytes at h ks) →
      done (at + node_size h ks) 1 (nodes_in ks + 1) (entries_of h + entries_in ks) ≡ read_node s (suc d) at
  unfolding read_table BytesAt
  back_three b f g =
      let n = length ks in
      let a1 = at + 1 + lists_size h in
      let a2 = a1 + 8 in
      let a3 = a2 + n * 9 in
      let sz = size_three in
      let rest = bytes64 n ++ (table_by_arrival a3 ks ++ children_bytes a3 ks) in
      let g' : Holds s at (3 ∷ (lists_bytes h ++ rest)) = subst (Holds s at) bytes_three g in
      let hd = holds_head s at 3 h rest b (omega arith) (omega arith) (omega arith) g' in
      let hn = holds_le s a1 n (omega arith) (holds_left s a1 (bytes64 n) (table_by_arrival a3 ks ++ children_bytes a3 ks) hd.1) in
      let ht = holds_right s a1 8 (bytes64 n) (table_by_arrival a3 ks ++ children_bytes a3 ks) (length_bytes64 n) hd.1 in
      let z : a2 ≡ a2 + 0 * 9 = omega arith in
      let tb : TableAt s a2 0 a3 ks = table_holds s a2 0 a3 ks b (omega arith) (holds_at s a2 (a2 + 0 * 9) (table_by_arrival a3 ks) z (holds_left s a2 (table_by_arrival a3 ks) (children_bytes a3 ks) ht)) in
      let hk : Holds s a3 (children_bytes a3 ks) = holds_right s a2 (n * 9) (table_by_arrival a3 ks) (children_bytes a3 ks) (table_length a3 ks) ht in
      let ff : 0 ≡ table_fault s a2 n 0 = fault_free s a2 [] ks (omega arith) tt (arrival_bytes s a2 0 a3 ks tb) apart in
      let op : table (sparse_table 3 a1 n) ≡ open_table s 3 a1 = open_ready s 3 a1 (omega arith) n 0 hn (omega arith) (fits_three n few) ff refl in
      let run = run_arrival s d (sparse_table 3 a1 n) 0 a3 0 0 0 ks b refl (omega arith) reads tb hk in
      let en = end_sparse (sparse_table 3 a1 n) (a3 + children_size ks) (0 + n) (0 + nodes_in ks) (0 + entries_in ks) (omega arith) in
      let e1 : at + node_size h ks ≡ a3 + children_size ks = omega arith in
      let e2 : nodes_in ks ≡ 0 + nodes_in ks = omega arith in
      let e3 : entries_in ks ≡ 0 + entries_in ks = omega arith in
      let l : suc d - 1 ≡ d = omega arith in
      let tab : done (a3 + children_size ks) 1 (0 + nodes_in ks) (0 + entries_in ks) ≡ read_table s (read_node s (suc d - 1)) (sparse_table 3 a1 n) = rw l (en ∙ run) in
      rw (e1, e2, e3) (node_done s (suc d) at (omega arith) 3 a1 (entries_of h) (sparse_table 3 a1 n) (a3 + children_size ks) 1 (0 + nodes_in ks) (0 + entries_in ks) hd.0 op tab)
