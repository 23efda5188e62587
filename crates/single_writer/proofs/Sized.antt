-- The bytes of a node are as many as its size says, whatever its children are. Assumes nothing.
use Prim.Native.Nat.{ℕ, zero, suc, ◌+◌, ◌*◌}
use native.Mathlib.Omega.{arith}
use mathlib.Core.Path.{◌≡◌, refl}
use mathlib.Core.Bool.{Bool, true, false, cond}
use mathlib.Core.List.{List, [], ◌∷◌, ◌++◌}
use lib.ListN.{length, length-append, take}
use lib.Dec.{eqb}
use Rattle.words.specs.Words.{bytes64}
use Rattle.words.proofs.Parts.{length_bytes64}
use Rattle.trie.specs.Trie.{Lists, Forest, leaf, more}
use Rattle.kinds.specs.Kinds.{kind_of}
use Rattle.image_format.specs.Image.{Child, children_bytes, children_size, table_by_arrival, table_by_byte, with_byte, ascending, slot_size, slot_bytes, slot_offsets, slots_bytes, slots_size, table_bytes, table_size, lists_bytes, lists_size, node_bytes, node_size, as_child, children_of}
use Rattle.image_format.proofs.Holding.{head_length}
use Rattle.image_format.proofs.KindThree.{table_length}
use Rattle.image_format.proofs.KindOne.{offsets_length}
use Rattle.image_format.proofs.KindTwo.{offs_length}

abbrev pub Sized : List Child → Type 0
Sized [] = Unit {0}
Sized (k ∷ ks) = ((at : ℕ) → length (k.bytes at) ≡ k.size) × Sized ks

pub sized_take : (n : ℕ) (ks : List Child) → Sized ks → Sized (take n ks)
sized_take zero ks h = tt
sized_take (suc n) [] h = tt
sized_take (suc n) (k ∷ ks) h = (h.0, sized_take n ks h.1)

sized_append : (xs ys : List Child) → Sized xs → Sized ys → Sized (xs ++ ys)
sized_append [] ys h g = g
sized_append (x ∷ xs) ys h g = (h.0, sized_append xs ys h.1 g)

pub sized_with : (b : ℕ) (ks : List Child) → Sized ks → Sized (with_byte b ks)
unfolding with_byte
sized_with b [] h = tt
sized_with b (k ∷ ks) h = go (eqb k.byte b) (sized_with b ks h.1)
  where
    go : (o : Bool) → Sized (with_byte b ks) → Sized (cond o (k ∷ with_byte b ks) (with_byte b ks))
    go true r = (h.0, r)
    go false r = r

sized_ascending : (m b : ℕ) (ks : List Child) → Sized ks → Sized (ascending m b ks)
unfolding ascending
sized_ascending zero b ks h = tt
sized_ascending (suc m) b ks h = sized_append (with_byte b ks) (ascending m (b + 1) ks) (sized_with b ks h) (sized_ascending m (b + 1) ks h)

pub children_length : (at : ℕ) (ks : List Child) → Sized ks → length (children_bytes at ks) ≡ children_size ks
unfolding children_bytes children_size
children_length at [] h = refl
children_length at (k ∷ ks) h =
    omega (arith, length-append (k.bytes (at + 1)) (children_bytes (at + (1 + k.size)) ks), h.0 (at + 1), children_length (at + (1 + k.size)) ks h.1)

pub slot_length : (at : ℕ) (ks : List Child) → Sized ks → length (slot_bytes at ks) ≡ slot_size ks
unfolding slot_bytes slot_size
slot_length at [] h = refl
slot_length at (k ∷ ks) h = omega (arith, h.0 (at + 1))

pub slots_length : (m b at : ℕ) (ks : List Child) → Sized ks → length (slots_bytes m b at ks) ≡ slots_size m b ks
unfolding slots_bytes slots_size
slots_length zero b at ks h = refl
slots_length (suc m) b at ks h =
    let w = with_byte b ks in
    omega (arith, length-append (slot_bytes at w) (slots_bytes m (b + 1) (at + slot_size w) ks), slot_length at w (sized_with b ks h), slots_length m (b + 1) (at + slot_size w) ks h)

pub table_long : (kind at : ℕ) (ks : List Child) → Sized ks → length (table_bytes kind at ks) ≡ table_size kind ks
unfolding table_bytes table_size
table_long kind at ks h = go (eqb kind 1) (eqb kind 2)
  where
    start : ℕ
    start = at + 8 + length ks * 9

    go : (o p : Bool) → length (cond o (slot_offsets 256 0 (at + 2048) ks ++ slots_bytes 256 0 (at + 2048) ks)
        (cond p (bytes64 (length ks) ++ (table_by_byte (at + 8 + length ks * 9) ks ks ++ children_bytes (at + 8 + length ks * 9) (ascending 256 0 ks)))
        (bytes64 (length ks) ++ (table_by_arrival (at + 8 + length ks * 9) ks ++ children_bytes (at + 8 + length ks * 9) ks))))
        ≡ cond o (2048 + slots_size 256 0 ks) (cond p (8 + length ks * 9 + children_size (ascending 256 0 ks)) (8 + length ks * 9 + children_size ks))
    go true p =
        omega (arith, length-append (slot_offsets 256 0 (at + 2048) ks) (slots_bytes 256 0 (at + 2048) ks), offsets_length 256 0 (at + 2048) ks, slots_length 256 0 (at + 2048) ks h)
    go false true =
        omega (
          arith,
          length-append (bytes64 (length ks)) (table_by_byte start ks ks ++ children_bytes start (ascending 256 0 ks)),
          length_bytes64 (length ks),
          length-append (table_by_byte start ks ks) (children_bytes start (ascending 256 0 ks)),
          offs_length start ks ks,
          children_length start (ascending 256 0 ks) (sized_ascending 256 0 ks h),
        )
    go false false =
        omega (
          arith,
          length-append (bytes64 (length ks)) (table_by_arrival start ks ++ children_bytes start ks),
          length_bytes64 (length ks),
          length-append (table_by_arrival start ks) (children_bytes start ks),
          table_length start ks,
          children_length start ks h,
        )

pub node_long : (at : ℕ) (h : Lists) (ks : List Child) → Sized ks → length (node_bytes at h ks) ≡ node_size h ks
unfolding node_bytes node_size
node_long at h ks z =
    let t = table_bytes (kind_of (length ks)) (at + 1 + lists_size h) ks in
    omega (arith, length-append (lists_bytes h) t, head_length h, table_long (kind_of (length ks)) (at + 1 + lists_size h) ks z)

pub all_sized : (f : Forest) → Sized (children_of f)
unfolding children_of as_child
all_sized leaf = tt
all_sized (more b h under later) = ((λ at. node_long at h (children_of under) (all_sized under)), all_sized later)
