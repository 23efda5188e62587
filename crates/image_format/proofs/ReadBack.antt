-- The image of a trie within the limits is read back whole, and counts what the trie has. Assumes nothing.
use Prim.Native.Nat.{◌*◌, ◌+◌, ◌<◌, ◌^◌, ◌≤◌, suc, zero, ℕ}
use native.Mathlib.Omega.{arith}
use mathlib.Core.Bool.{Bool, cond, false, true}
use mathlib.Core.List.{List, [], ◌++◌, ◌∷◌}
use mathlib.Core.Path.{◌≡◌, refl, subst}
use lib.Dec.{eqb, leb}
use lib.ListN.{length, length-append}
use lib.Seq.{append_snoc, get_or-append_seam}
use borrow.Author.Tests.{leb-false, leb-true}
use Rattle.words.proofs.Parts.{length_bytes64}
use Rattle.words.specs.Words.{bytes64}
use Rattle.words.specs.Holding.{Holds}
use Rattle.trie.specs.Trie.{Forest, Lists, entries_of, leaf, more}
use Rattle.image_format.proofs.ByByte.{Bytes, Rising, at_read}
use Rattle.image_format.proofs.Holding.{head_length}
use Rattle.image_format.proofs.KindOne.{back_one, offsets_length, slot_length}
use Rattle.image_format.proofs.KindThree.{AllRead, Distinct, back_three, children_length, table_length}
use Rattle.image_format.proofs.KindTwo.{back_two, offs_length}
use Rattle.image_format.specs.Image.{Child, as_child, ascending, children_bytes, children_of, children_size, entries_in, lists_size, node_bytes, node_size, nodes_in, slot_bytes, slot_offsets, slot_size, slots_bytes, slots_size, table_by_arrival, table_by_byte, table_bytes, table_size, with_byte}
use Rattle.kinds.specs.Kinds.{kind_of}
use Rattle.image_format.specs.Reading.{done, read_node}

append_read : (d : ℕ) (xs ys : List Child) → AllRead d xs → AllRead d ys → AllRead d (xs ++ ys)
unfolding AllRead
append_read d [] ys a b = b
append_read d (x ∷ xs) ys a b = (a.0, append_read d xs ys a.1 b)

ascending_read : (d m b : ℕ) (ks : List Child) → AllRead d ks → AllRead d (ascending m b ks)
unfolding AllRead ascending
ascending_read d zero b ks h = tt
ascending_read d (suc m) b ks h = append_read d (with_byte b ks) (ascending m (b + 1) ks) (at_read d b ks h) (ascending_read d m (b + 1) ks h)

slots_length : (d m b at : ℕ) (ks : List Child) → AllRead d ks → length (slots_bytes m b at ks) ≡ slots_size m b ks
unfolding slots_bytes slots_size
slots_length d zero b at ks h = refl
slots_length d (suc m) b at ks h =
    simp length-append (omega (arith, one d b at ks h, slots_length d m (b + 1) (at + slot_size (with_byte b ks)) ks h))
  where
    one : (d b at : ℕ) (ks : List Child) → AllRead d ks → length (slot_bytes at (with_byte b ks)) ≡ slot_size (with_byte b ks)
    one d b at ks h = slot_length d at (with_byte b ks) (at_read d b ks h)

table_sized : (d kind at : ℕ) (ks : List Child) → AllRead d ks → length (table_bytes kind at ks) ≡ table_size kind ks
unfolding table_bytes table_size
table_sized d kind at ks h = go (eqb kind 1) (eqb kind 2)
  where
    go : (p q : Bool) →
        length (cond p (slot_offsets 256 0 (at + 2048) ks ++ slots_bytes 256 0 (at + 2048) ks)
        (cond q (bytes64 (length ks) ++ (table_by_byte (at + 8 + length ks * 9) ks ks ++ children_bytes (at + 8 + length ks * 9) (ascending 256 0 ks)))
        (bytes64 (length ks) ++ (table_by_arrival (at + 8 + length ks * 9) ks ++ children_bytes (at + 8 + length ks * 9) ks)))) ≡
        cond p (2048 + slots_size 256 0 ks) (cond q (8 + length ks * 9 + children_size (ascending 256 0 ks)) (8 + length ks * 9 + children_size ks))
    go true q = simp (length-append, offsets_length) (omega (arith, slots_length d 256 0 (at + 2048) ks h))
    go false true = simp (length-append, length_bytes64, offs_length) (omega (arith, children_length d (at + 8 + length ks * 9) (ascending 256 0 ks) (ascending_read d 256 0 ks h)))
    go false false = simp (length-append, length_bytes64, table_length) (omega (arith, children_length d (at + 8 + length ks * 9) ks h))

pub node_length : (d at : ℕ) (h : Lists) (ks : List Child) → AllRead d ks → length (node_bytes at h ks) ≡ node_size h ks
unfolding node_bytes node_size
node_length d at h ks x = simp (length-append, head_length) (omega (arith, table_sized d (kind_of (length ks)) (at + 1 + lists_size h) ks x))

pub node_back : (s : List ℕ) (d at : ℕ) (h : Lists) (ks : List Child) → Bytes ks → Distinct [] ks → AllRead d ks →
    length s < 2 ^ 64 → at + node_size h ks ≤ length s → Holds s at (node_bytes at h ks) →
    done (at + node_size h ks) 1 (nodes_in ks + 1) (entries_of h + entries_in ks) ≡ read_node s (suc d) at
node_back s d at h ks b a r l f g = go (leb (length ks) 8) refl (leb (length ks) 96) refl
  where
    go : (p : Bool) → leb (length ks) 8 ≡ p → (q : Bool) → leb (length ks) 96 ≡ q →
        done (at + node_size h ks) 1 (nodes_in ks + 1) (entries_of h + entries_in ks) ≡ read_node s (suc d) at
    go true x q y = back_three s d at h ks (leb-true (length ks) 8 x) a r l f g
    go false x true y = back_two s d at h ks (leb-false (length ks) 8 x) (leb-true (length ks) 96 y) b a r l f g
    go false x false y = back_one s d at h ks (leb-false (length ks) 96 y) b a r l f g

-- more than 96 siblings stand by ascending byte
abbrev pub Up : Forest → Type 0
Up f = 96 < length (children_of f) → Rising 0 (children_of f)

-- no path is longer than d; sibling bytes differ and are bytes, more than 96 of them ascending
unfoldable pub Limits : ℕ → Forest → Type 0
Limits d leaf = Unit
Limits zero (more b h under later) = ⊥
Limits (suc d) (more b h under later) = Bytes (children_of under) × Distinct [] (children_of under) × Up under × Limits d under × Limits (suc d) later

pub all_read : (d : ℕ) (f : Forest) → Limits d f → AllRead d (children_of f)
unfolding Limits AllRead children_of as_child
all_read d leaf l = tt
all_read zero (more b h under later) l = absurd l
all_read (suc d) (more b h under later) l =
    let r = all_read d under l.3 in
    (record { sized = λ at. node_length d at h (children_of under) r; back = λ s at m f g. node_back s d at h (children_of under) l.0 l.1 r m f g }, all_read (suc d) later l.4)

pub holds_in : (pre xs : List ℕ) → Holds (pre ++ xs) (length pre) xs
unfolding Holds
holds_in pre [] = tt
holds_in pre (x ∷ xs) =
    let e : length (pre ++ (x ∷ [])) ≡ length pre + 1 = simp length-append (omega arith) in
    let h : Holds ((pre ++ (x ∷ [])) ++ xs) (length (pre ++ (x ∷ []))) xs = holds_in (pre ++ (x ∷ [])) xs in
    (get_or-append_seam pre x xs 0, subst (λ (l : List ℕ). Holds l (length pre + 1) xs) (append_snoc pre x xs) (subst (λ (n : ℕ). Holds ((pre ++ (x ∷ [])) ++ xs) n xs) e h))
