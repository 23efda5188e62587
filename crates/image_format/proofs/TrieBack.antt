-- read after write: the trie of an image is the trie that was written. A node with more than 96 children has them by ascending byte: its image does not say how they arrived.
-- Assumes nothing.
use Prim.Native.Nat.{◌*◌, ◌+◌, ◌<◌, ◌^◌, ◌≤◌, suc, zero, ℕ}
use native.Mathlib.Omega.{arith}
use mathlib.Core.Bool.{Bool, false, true}
use mathlib.Core.List.{List, [], ◌++◌, ◌∷◌}
use mathlib.Core.Path.{◌≡◌, refl, subst}
use lib.Dec.{leb}
use lib.ListN.{get_or, length}
use borrow.Author.Tests.{eq-eqb, leb-false, leb-true, ne_eqb}
use Rattle.words.proofs.Parts.{length_bytes64}
use Rattle.words.specs.Words.{bytes64, le64}
use Rattle.words.specs.Holding.{Holds}
use Rattle.words.proofs.Holding.{holds_at, holds_le, holds_left, holds_right}
use Rattle.trie.specs.Trie.{Forest, Lists, leaf, more}
use Rattle.image_format.proofs.ByByte.{Bytes, Rising, all_size, below_most, below_zero}
use Rattle.image_format.proofs.Holding.{head_length}
use Rattle.image_format.proofs.KindOne.{bytes_one, offsets_length, size_one}
use Rattle.image_format.proofs.KindThree.{AllRead, Distinct, bytes_three, size_three, table_holds, table_length}
use Rattle.image_format.proofs.KindTwo.{bytes_two, offs_holds, offs_length, size_two}
use Rattle.image_format.proofs.ListsBack.{entries_within, holds_lists}
use Rattle.image_format.proofs.ReadBack.{Limits, Up, all_read}
use Rattle.image_format.proofs.Spots.{Spots, spot_at, spots_one, spots_three, spots_two}
use Rattle.image_format.specs.Held.{Entry, dense_entries, forest_by, list_end, lists_in, node_in, sparse_entries, table_entries}
use Rattle.image_format.specs.Image.{ascending, children_bytes, children_of, children_size, lists_bytes, lists_size, node_bytes, node_size, size_below, slot_offsets, slots_bytes, table_by_arrival, table_by_byte}
use Rattle.image_format.specs.Savable.{AllFit, ListsFit}

pub entries_sparse : (s : List ℕ) (at t n : ℕ) → (get_or s at 0 ≡ 1 → ⊥) → list_end s (list_end s (list_end s (at + 1))) ≡ t → n ≡ le64 s t → sparse_entries s (t + 8) n 0 ≡ table_entries s at
unfolding table_entries
entries_sparse s at t n x y z = simp (ne_eqb _ _ x, y, ← z)

pub entries_dense : (s : List ℕ) (at t : ℕ) → get_or s at 0 ≡ 1 → list_end s (list_end s (list_end s (at + 1))) ≡ t → dense_entries s t 256 0 ≡ table_entries s at
unfolding table_entries
entries_dense s at t x y = simp (eq-eqb _ _ x, y)

module _ (s : List ℕ) (d at : ℕ) (h : Lists) (f : Forest) (small : length s < 2 ^ 64) (fits : at + node_size h (children_of f) ≤ length s) (lists : ListsFit h)
    (bytes : Bytes (children_of f)) (apart : Distinct [] (children_of f)) (reads : AllRead d (children_of f)) (holds : Holds s at (node_bytes at h (children_of f))) where
  -- the lists of a node, and what stands behind them
  node_head : (k : ℕ) (rest : List ℕ) → at + 1 + lists_size h ≤ length s → node_bytes at h (children_of f) ≡ k ∷ (lists_bytes h ++ rest) →
      (get_or s at 0 ≡ k) × (lists_in s at ≡ h) × (list_end s (list_end s (list_end s (at + 1))) ≡ at + 1 + lists_size h) × Holds s (at + 1 + lists_size h) rest
  unfolding Holds
  node_head k rest g e =
      let w : Holds s at (k ∷ (lists_bytes h ++ rest)) = subst (Holds s at) e holds in
      let hl = holds_lists s at h (omega (arith, entries_within h)) lists (holds_left s (at + 1) (lists_bytes h) rest w.1) in
      (w.0, hl.0, hl.1, holds_right s (at + 1) (lists_size h) (lists_bytes h) rest (head_length h) w.1)

  node_three : length (children_of f) ≤ 8 → (lists_in s at ≡ h) × Spots s (table_entries s at) f
  node_three few =
      let ks = children_of f in
      let n = length ks in
      let a1 = at + 1 + lists_size h in
      let a2 = a1 + 8 in
      let a3 = a2 + n * 9 in
      let sz = size_three s d at h ks few apart reads in
      let t = node_head 3 (bytes64 n ++ (table_by_arrival a3 ks ++ children_bytes a3 ks)) (omega arith) (bytes_three s d at h ks few apart reads) in
      let hn = holds_le s a1 n (omega arith) (holds_left s a1 (bytes64 n) (table_by_arrival a3 ks ++ children_bytes a3 ks) t.3) in
      let ht = holds_right s a1 8 (bytes64 n) (table_by_arrival a3 ks ++ children_bytes a3 ks) (length_bytes64 n) t.3 in
      let tb = table_holds s a2 0 a3 ks small (omega arith) (holds_at s a2 (a2 + 0 * 9) (table_by_arrival a3 ks) (omega arith) (holds_left s a2 (table_by_arrival a3 ks) (children_bytes a3 ks) ht)) in
      let hk = holds_right s a2 (n * 9) (table_by_arrival a3 ks) (children_bytes a3 ks) (table_length a3 ks) ht in
      let no1 : get_or s at 0 ≡ 1 → ⊥ = omega (arith, t.0) in
      (t.1, subst (λ (es : List Entry). Spots s es f) (entries_sparse s at a1 n no1 t.2 hn) (spots_three s d a2 0 a3 f reads (omega arith) tb hk))

  node_two : 8 < length (children_of f) → length (children_of f) ≤ 96 → (lists_in s at ≡ h) × Spots s (table_entries s at) f
  node_two over few =
      let ks = children_of f in
      let n = length ks in
      let asc = ascending 256 0 ks in
      let a1 = at + 1 + lists_size h in
      let a2 = a1 + 8 in
      let a3 = a2 + n * 9 in
      let sz = size_two s d at h ks over few bytes apart reads in
      let asz = all_size ks bytes in
      let t = node_head 2 (bytes64 n ++ (table_by_byte a3 ks ks ++ children_bytes a3 asc)) (omega arith) (bytes_two s d at h ks over few bytes apart reads) in
      let hn = holds_le s a1 n (omega arith) (holds_left s a1 (bytes64 n) (table_by_byte a3 ks ks ++ children_bytes a3 asc) t.3) in
      let ht = holds_right s a1 8 (bytes64 n) (table_by_byte a3 ks ks ++ children_bytes a3 asc) (length_bytes64 n) t.3 in
      let most : (x : ℕ) → a3 + size_below x ks ≤ length s = λ x. omega (arith, below_most x ks) in
      let tb = offs_holds s a2 a3 0 ks ks small most (holds_at s a2 (a2 + 0 * 9) (table_by_byte a3 ks ks) (omega arith) (holds_left s a2 (table_by_byte a3 ks ks) (children_bytes a3 asc) ht)) in
      let hk = holds_right s a2 (n * 9) (table_by_byte a3 ks ks) (children_bytes a3 asc) (offs_length a3 ks ks) ht in
      let no1 : get_or s at 0 ≡ 1 → ⊥ = omega (arith, t.0) in
      let z0 : a3 ≡ a3 + size_below 0 ks = omega (arith, below_zero ks) in
      let big : a3 + children_size asc ≤ length s = omega arith in (
        t.1,
        subst (λ (es : List Entry). Spots s es f) (entries_sparse s at a1 n no1 t.2 hn)
            (spots_two s a2 a3 0 ks [] f refl apart bytes (λ c l k o. spot_at s d a3 ks apart reads 256 0 a3 z0 big hk c (omega arith) (omega arith) k o) tb),
      )

  node_one : 96 < length (children_of f) → Rising 0 (children_of f) → (lists_in s at ≡ h) × Spots s (table_entries s at) f
  node_one over up =
      let ks = children_of f in
      let a1 = at + 1 + lists_size h in
      let a3 = a1 + 2048 in
      let sz = size_one s d at h ks over bytes apart reads in
      let t = node_head 1 (slot_offsets 256 0 a3 ks ++ slots_bytes 256 0 a3 ks) (omega arith) (bytes_one s d at h ks over bytes apart reads) in
      let ho = holds_at s a1 (a1 + 0 * 8) (slot_offsets 256 0 a3 ks) (omega arith) (holds_left s a1 (slot_offsets 256 0 a3 ks) (slots_bytes 256 0 a3 ks) t.3) in
      let hk = holds_right s a1 2048 (slot_offsets 256 0 a3 ks) (slots_bytes 256 0 a3 ks) (offsets_length 256 0 a3 ks) t.3 in
      (t.1, subst (λ (es : List Entry). Spots s es f) (entries_dense s at a1 t.0 t.2) (spots_one 256 s d a1 0 a3 f small refl reads bytes up (omega arith) ho hk))

  node_spots : Up f → (lists_in s at ≡ h) × Spots s (table_entries s at) f
  node_spots up = go (leb (length (children_of f)) 8) refl (leb (length (children_of f)) 96) refl
    where
      go : (p : Bool) → leb (length (children_of f)) 8 ≡ p → (q : Bool) → leb (length (children_of f)) 96 ≡ q → (lists_in s at ≡ h) × Spots s (table_entries s at) f
      go true x q y = node_three (leb-true (length (children_of f)) 8 x)
      go false x true y = node_two (leb-false (length (children_of f)) 8 x) (leb-true (length (children_of f)) 96 y)
      go false x false y = node_one (leb-false (length (children_of f)) 96 y) (up (leb-false (length (children_of f)) 96 y))

node_tree : (s : List ℕ) (d at : ℕ) (h : Lists) (f : Forest) → lists_in s at ≡ h → Spots s (table_entries s at) f → AllFit f → Limits d f →
    ((c : ℕ) (es : List Entry) → AllFit f → Limits (suc c) f → Spots s es f → forest_by (node_in s c) es ≡ f) → node_in s d at ≡ record { lists = h; children = f }
unfolding node_in Limits
node_tree s zero at h leaf e w v l ih = rw e refl
node_tree s zero at h (more b h' under later) e w v l ih = absurd l
node_tree s (suc c) at h leaf e w v l ih = rw (e, ih c (table_entries s at) v l w) refl
node_tree s (suc c) at h (more b h' under later) e w v l ih = rw (e, ih c (table_entries s at) v l w) refl

forest_all : (f : Forest) (s : List ℕ) (d : ℕ) (es : List Entry) → length s < 2 ^ 64 → AllFit f → Limits (suc d) f → Spots s es f → forest_by (node_in s d) es ≡ f
unfolding Limits Spots forest_by
forest_all leaf s d [] q v l w = refl
forest_all leaf s d (e ∷ es) q v l w = absurd w
forest_all (more b h under later) s d [] q v l w = absurd w
forest_all (more b h under later) s d (e ∷ es) q v l w =
    let n = node_spots s d e.node h under q w.1 v.0 l.0 l.1 (all_read d under l.3) w.2 l.2 in
    let nt : node_in s d e.node ≡ record { lists = h; children = under } = node_tree s d e.node h under n.0 n.1 v.1 l.3 (λ c x y z. forest_all under s c x q y z) in
    let ih = forest_all later s d es q v.2 l.4 w.3 in
    rw (w.0, nt, ih) refl

-- what a node's bytes were written from is what they hold
pub node_held : (s : List ℕ) (d at : ℕ) (h : Lists) (f : Forest) → ListsFit h → AllFit f → Limits d f → Bytes (children_of f) → Distinct [] (children_of f) → Up f →
    length s < 2 ^ 64 → at + node_size h (children_of f) ≤ length s → Holds s at (node_bytes at h (children_of f)) → node_in s d at ≡ record { lists = h; children = f }
node_held s d at h f fit v l b a up m w g =
    let n = node_spots s d at h f m w fit b a (all_read d f l) g up in
    node_tree s d at h f n.0 n.1 v l (λ c x y z. forest_all f s c x m y z)
