-- What the bytes of a node say where they stand: its lists, its bounds, and that its table's entries lead to its children, for the three kinds.
-- Assumes nothing.
use Prim.Native.Nat.{ℕ, zero, suc, ◌+◌, ◌*◌, ◌^◌, ◌≤◌, ◌<◌}
use native.Mathlib.Omega.{arith}
use mathlib.Core.Path.{◌≡◌, refl, subst}
use mathlib.Core.Bool.{Bool, true, false}
use mathlib.Core.List.{List, [], ◌∷◌, ◌++◌}
use mathlib.Core.Logic.{◌⊎◌, inl, inr}
use lib.ListN.{length, get_or}
use lib.Dec.{eqb}
use borrow.Author.Tests.{eq-eqb, ne_eqb}
use Rattle.std.proofs.lemmas.Bool.{cases_lt}
use Rattle.words.proofs.Parts.{length_bytes64}
use Rattle.words.specs.Words.{bytes64, le64}
use Rattle.words.specs.Holding.{Holds}
use Rattle.words.proofs.Holding.{holds_at, holds_le, holds_left, holds_right}
use Rattle.definitions.proofs.Views.{Eq, eq}
use Rattle.trie.specs.Trie.{Forest, leaf, more, Node}
use Rattle.image_format.proofs.ByByte.{Bytes, all_size, at_read, below_most, below_zero}
use Rattle.image_format.proofs.Holding.{head_length}
use Rattle.image_format.proofs.KindOne.{bytes_one, offsets_length, size_one, slot_length}
use Rattle.image_format.proofs.KindThree.{AllRead, Distinct, bytes_three, size_three, table_holds, table_length}
use Rattle.image_format.proofs.KindTwo.{bytes_two, offs_holds, offs_length, size_two}
use Rattle.image_format.proofs.ListsBack.{entries_within, holds_lists}
use Rattle.image_format.proofs.ReadBack.{Limits, Up, all_read}
use Rattle.image_format.proofs.Shapes.{limits_of}
use Rattle.image_format.proofs.Spots.{Spots, spot_at, spots_one, spots_three, spots_two}
use Rattle.image_format.proofs.TrieBack.{entries_dense, entries_sparse}
use Rattle.image_format.specs.Held.{Entry, lists_in, sparse_entries, table_entries}
use Rattle.image_format.specs.Image.{Child, ascending, children_bytes, children_of, children_size, lists_bytes, lists_size, node_bytes, size_below, slot_bytes, slot_offsets, slot_size, slots_bytes, slots_size, table_by_arrival, table_by_byte, with_byte}
use Rattle.image_walk.specs.Parts.{chunk_list, suffix_list, behind_lists, table_at, children_at}
use Rattle.image_walk.specs.Bounds.{TableHere, Bounds}
use Rattle.image_walk.specs.Here.{NodeHere}

-- what is shown of each kind
pub record Facts (s : List ℕ) (at : ℕ) (n : Node) : Type 0 where
  pub lists : lists_in s at ≡ n.lists
  pub bounds : Bounds s at
  pub spots : Spots s (table_entries s at) n.children

-- ── tables ──

-- where the lists end within the image, each of them does
bounds_of : (s : List ℕ) (at : ℕ) → behind_lists s at + 8 ≤ length s → ((get_or s at 0 ≡ 1 → ⊥) → le64 s (behind_lists s at) ≤ 96) →
    TableHere s (table_at s at) (children_at s at) → Bounds s at
unfolding behind_lists suffix_list chunk_list
bounds_of s at h f t = record { kind = omega arith; prefixes = omega arith; chunks = omega arith; suffixes = omega arith; count = h; few = f; table = t }

-- each entry of 9 bytes leads into the image
entry_within : (s : List ℕ) (base n j : ℕ) (f : Forest) → Spots s (sparse_entries s base n j) f → (i : ℕ) → j ≤ i → i < j + n → le64 s (base + i * 9 + 1) < length s
unfolding Spots sparse_entries
entry_within s base zero j f w i x y = absurd (omega arith)
entry_within s base (suc n) j leaf w i x y = absurd w
entry_within s base (suc n) j (more b h below later) w i x y = go (eqb j i) (eq j i) (λ z. entry_within s base n (j + 1) later w.3 i z (omega arith))
  where
    go : (o : Bool) → Eq o j i → (j + 1 ≤ i → le64 s (base + i * 9 + 1) < length s) → le64 s (base + i * 9 + 1) < length s
    go true e ih = subst (λ (k : ℕ). le64 s (base + k * 9 + 1) < length s) e (omega (arith, w.1))
    go false e ih = ih (omega arith)

-- kinds 2 and 3
behind_count : (s : List ℕ) (at t : ℕ) → (get_or s at 0 ≡ 1 → ⊥) → behind_lists s at ≡ t → table_at s at ≡ t + 8
unfolding table_at
behind_count s at t k e = simp (ne_eqb _ _ k, e)

count_read : (s : List ℕ) (at t n : ℕ) → (get_or s at 0 ≡ 1 → ⊥) → behind_lists s at ≡ t → n ≡ le64 s t → children_at s at ≡ n
unfolding children_at
count_read s at t n k e c = simp (ne_eqb _ _ k, e, ← c)

sparse_table : (s : List ℕ) (at t n : ℕ) (f : Forest) → (get_or s at 0 ≡ 1 → ⊥) → behind_lists s at ≡ t → n ≡ le64 s t → n ≤ 96 → t + 8 + n * 9 ≤ length s →
    Spots s (sparse_entries s (t + 8) n 0) f → Bounds s at
sparse_table s at t n f k e c few g w = bounds_of s at (omega arith) (λ z. rw (e, ← c) few) here
  where
    here : TableHere s (table_at s at) (children_at s at)
    here =
        rw (behind_count s at t k e, count_read s at t n k e c)
        (record {
          offsets = λ z. absurd (omega arith);
          flags = λ z j l. absurd (omega arith);
          empty_or_taken = λ z j l. absurd (omega arith);
          entries = λ z. g;
          nodes = λ z j l. entry_within s (t + 8) n 0 f w j (omega arith) (omega arith);
        })

slot_some : (ks : List Child) → 1 ≤ slot_size ks
unfolding slot_size
slot_some [] = omega arith
slot_some (k ∷ ks) = omega arith

-- a flag is 0 or 1
slot_flag : (s : List ℕ) (at : ℕ) (ks : List Child) → Holds s at (slot_bytes at ks) → get_or s at 0 ≤ 1
unfolding slot_bytes Holds
slot_flag s at [] h = omega (arith, h.0)
slot_flag s at (k ∷ ks) h = omega (arith, h.0)

-- each offset of kind 1 leads to a flag
slot_within : (m : ℕ) (s : List ℕ) (d base b at : ℕ) (ks : List Child) → AllRead d ks → length s < 2 ^ 64 → at + slots_size m b ks ≤ length s →
    Holds s (base + b * 8) (slot_offsets m b at ks) → Holds s at (slots_bytes m b at ks) →
    (c : ℕ) → b ≤ c → c < b + m → (le64 s (base + c * 8) < length s) × (get_or s (le64 s (base + c * 8)) 0 ≤ 1)
unfolding slots_size slot_offsets slots_bytes
slot_within zero s d base b at ks r q f o h c x y = absurd (omega arith)
slot_within (suc m) s d base b at ks r q f o h c x y =
    let one = with_byte b ks in
    let at' = at + slot_size one in
    let some = slot_some one in
    let off : at ≡ le64 s (base + b * 8) = holds_le s (base + b * 8) at (omega arith) (holds_left s (base + b * 8) (bytes64 at) (slot_offsets m (b + 1) at' ks) o) in
    let o' = holds_at s (base + b * 8 + 8) (base + (b + 1) * 8) (slot_offsets m (b + 1) at' ks) (omega arith)
    (holds_right s (base + b * 8) 8 (bytes64 at) (slot_offsets m (b + 1) at' ks) (length_bytes64 at) o) in
    let h' = holds_right s at (slot_size one) (slot_bytes at one) (slots_bytes m (b + 1) at' ks) (slot_length d at one (at_read d b ks r)) h in
    let flag = slot_flag s at one (holds_left s at (slot_bytes at one) (slots_bytes m (b + 1) at' ks) h) in
    go (eqb b c) (eq b c) off (omega arith) flag (λ z. slot_within m s d base (b + 1) at' ks r q (omega arith) o' h' c z (omega arith))
  where
    go : (e : Bool) → Eq e b c → at ≡ le64 s (base + b * 8) → at < length s → get_or s at 0 ≤ 1 →
        (b + 1 ≤ c → (le64 s (base + c * 8) < length s) × (get_or s (le64 s (base + c * 8)) 0 ≤ 1)) → (le64 s (base + c * 8) < length s) × (get_or s (le64 s (base + c * 8)) 0 ≤ 1)
    go true e off l g ih = rw (← e, ← off) (l, g)
    go false e off l g ih = ih (omega arith)

-- kind 1
no_count : (s : List ℕ) (at t : ℕ) → get_or s at 0 ≡ 1 → behind_lists s at ≡ t → table_at s at ≡ t
unfolding table_at
no_count s at t k e = simp (eq-eqb _ _ k, e)

all_bytes : (s : List ℕ) (at : ℕ) → get_or s at 0 ≡ 1 → children_at s at ≡ 256
unfolding children_at
all_bytes s at k = simp (eq-eqb _ _ k)

dense_table : (s : List ℕ) (at t : ℕ) → get_or s at 0 ≡ 1 → behind_lists s at ≡ t → t + 2048 ≤ length s →
    ((j : ℕ) → j < 256 → (le64 s (t + j * 8) < length s) × (get_or s (le64 s (t + j * 8)) 0 ≤ 1)) → Bounds s at
dense_table s at t k e g w = bounds_of s at (omega arith) (λ z. absurd (z k)) here
  where
    here : TableHere s (table_at s at) (children_at s at)
    here =
        rw (no_count s at t k e, all_bytes s at k)
        (record {
          offsets = λ z. g;
          flags = λ z j l. (w j l).0;
          empty_or_taken = λ z j l. (w j l).1;
          entries = λ z. absurd (z refl);
          nodes = λ z j l. absurd (z refl);
        })

-- ── nodes ──

module _ (s : List ℕ) (d at : ℕ) (n : Node) (here : NodeHere s d at n) where
  abbrev ks : List Child
  ks = children_of n.children

  -- the node as the one child of another
  limits : Limits (suc d) (more 0 n.lists n.children leaf)
  limits = limits_of (suc d) (more 0 n.lists n.children leaf) (omega arith, here.bytes, tt) (tt, here.apart, tt) (here.short, tt) (here.kept, here.all_kept, tt)

  bytes : Bytes ks
  unfolding Limits
  bytes = limits.0

  apart : Distinct [] ks
  unfolding Limits
  apart = limits.1

  up : Up n.children
  unfolding Limits
  up = limits.2

  reads : AllRead d ks
  unfolding Limits
  reads = all_read d n.children limits.3

  -- the lists, and what stands behind them
  node_head : (k : ℕ) (rest : List ℕ) → at + 1 + lists_size n.lists ≤ length s → node_bytes at n.lists ks ≡ k ∷ (lists_bytes n.lists ++ rest) →
      (get_or s at 0 ≡ k) × (lists_in s at ≡ n.lists) × (behind_lists s at ≡ at + 1 + lists_size n.lists) × Holds s (at + 1 + lists_size n.lists) rest
  unfolding Holds behind_lists suffix_list chunk_list
  node_head k rest g e =
      let h = n.lists in
      let small = here.small in
      let w : Holds s at (k ∷ (lists_bytes h ++ rest)) = subst (Holds s at) e here.holds in
      let hl = holds_lists s at h (omega (arith, entries_within h)) here.lists (holds_left s (at + 1) (lists_bytes h) rest w.1) in
      (w.0, hl.0, hl.1, holds_right s (at + 1) (lists_size h) (lists_bytes h) rest (head_length h) w.1)

  node_three : length ks ≤ 8 → Facts s at n
  unfolding behind_lists suffix_list chunk_list
  node_three few =
      let h = n.lists in
      let m = length ks in
      let a1 = at + 1 + lists_size h in
      let a2 = a1 + 8 in
      let a3 = a2 + m * 9 in
      let small = here.small in
      let within = here.within in
      let sz = size_three s d at h ks few apart reads in
      let t = node_head 3 (bytes64 m ++ (table_by_arrival a3 ks ++ children_bytes a3 ks)) (omega arith) (bytes_three s d at h ks few apart reads) in
      let hn = holds_le s a1 m (omega arith) (holds_left s a1 (bytes64 m) (table_by_arrival a3 ks ++ children_bytes a3 ks) t.3) in
      let ht = holds_right s a1 8 (bytes64 m) (table_by_arrival a3 ks ++ children_bytes a3 ks) (length_bytes64 m) t.3 in
      let tb = table_holds s a2 0 a3 ks small (omega arith) (holds_at s a2 (a2 + 0 * 9) (table_by_arrival a3 ks) (omega arith) (holds_left s a2 (table_by_arrival a3 ks) (children_bytes a3 ks) ht)) in
      let hk = holds_right s a2 (m * 9) (table_by_arrival a3 ks) (children_bytes a3 ks) (table_length a3 ks) ht in
      let no1 : get_or s at 0 ≡ 1 → ⊥ = omega (arith, t.0) in
      let w = spots_three s d a2 0 a3 n.children reads (omega arith) tb hk in
      record {
        lists = t.1;
        bounds = sparse_table s at a1 m n.children no1 t.2 hn (omega arith) (omega arith) w;
        spots = subst (λ (es : List Entry). Spots s es n.children) (entries_sparse s at a1 m no1 t.2 hn) w;
      }

  node_two : 8 < length ks → length ks ≤ 96 → Facts s at n
  unfolding behind_lists suffix_list chunk_list
  node_two over few =
      let h = n.lists in
      let m = length ks in
      let asc = ascending 256 0 ks in
      let a1 = at + 1 + lists_size h in
      let a2 = a1 + 8 in
      let a3 = a2 + m * 9 in
      let small = here.small in
      let within = here.within in
      let sz = size_two s d at h ks over few bytes apart reads in
      let asz = all_size ks bytes in
      let t = node_head 2 (bytes64 m ++ (table_by_byte a3 ks ks ++ children_bytes a3 asc)) (omega arith) (bytes_two s d at h ks over few bytes apart reads) in
      let hn = holds_le s a1 m (omega arith) (holds_left s a1 (bytes64 m) (table_by_byte a3 ks ks ++ children_bytes a3 asc) t.3) in
      let ht = holds_right s a1 8 (bytes64 m) (table_by_byte a3 ks ks ++ children_bytes a3 asc) (length_bytes64 m) t.3 in
      let most : (x : ℕ) → a3 + size_below x ks ≤ length s = λ x. omega (arith, below_most x ks) in
      let tb = offs_holds s a2 a3 0 ks ks small most (holds_at s a2 (a2 + 0 * 9) (table_by_byte a3 ks ks) (omega arith) (holds_left s a2 (table_by_byte a3 ks ks) (children_bytes a3 asc) ht)) in
      let hk = holds_right s a2 (m * 9) (table_by_byte a3 ks ks) (children_bytes a3 asc) (offs_length a3 ks ks) ht in
      let no1 : get_or s at 0 ≡ 1 → ⊥ = omega (arith, t.0) in
      let z0 : a3 ≡ a3 + size_below 0 ks = omega (arith, below_zero ks) in
      let big : a3 + children_size asc ≤ length s = omega arith in
      let w = spots_two s a2 a3 0 ks [] n.children refl apart bytes (λ c l k o. spot_at s d a3 ks apart reads 256 0 a3 z0 big hk c (omega arith) (omega arith) k o) tb in
      record {
        lists = t.1;
        bounds = sparse_table s at a1 m n.children no1 t.2 hn few (omega arith) w;
        spots = subst (λ (es : List Entry). Spots s es n.children) (entries_sparse s at a1 m no1 t.2 hn) w;
      }

  node_one : 96 < length ks → Facts s at n
  unfolding behind_lists suffix_list chunk_list
  node_one over =
      let h = n.lists in
      let a1 = at + 1 + lists_size h in
      let a3 = a1 + 2048 in
      let small = here.small in
      let within = here.within in
      let sz = size_one s d at h ks over bytes apart reads in
      let t = node_head 1 (slot_offsets 256 0 a3 ks ++ slots_bytes 256 0 a3 ks) (omega arith) (bytes_one s d at h ks over bytes apart reads) in
      let ho = holds_at s a1 (a1 + 0 * 8) (slot_offsets 256 0 a3 ks) (omega arith) (holds_left s a1 (slot_offsets 256 0 a3 ks) (slots_bytes 256 0 a3 ks) t.3) in
      let hk = holds_right s a1 2048 (slot_offsets 256 0 a3 ks) (slots_bytes 256 0 a3 ks) (offsets_length 256 0 a3 ks) t.3 in
      let w = spots_one 256 s d a1 0 a3 n.children small refl reads bytes (up over) (omega arith) ho hk in
      record {
        lists = t.1;
        bounds = dense_table s at a1 t.0 t.2 (omega arith) (λ j l. slot_within 256 s d a1 0 a3 ks reads small (omega arith) ho hk j (omega arith) (omega arith));
        spots = subst (λ (es : List Entry). Spots s es n.children) (entries_dense s at a1 t.0 t.2) w;
      }

  pub facts : Facts s at n
  facts = go (cases_lt 8 (length ks)) (cases_lt 96 (length ks))
    where
      go : (8 < length ks) ⊎ (length ks ≤ 8) → (96 < length ks) ⊎ (length ks ≤ 96) → Facts s at n
      go (inr x) y = node_three x
      go (inl x) (inr y) = node_two x y
      go (inl x) (inl y) = node_one y
