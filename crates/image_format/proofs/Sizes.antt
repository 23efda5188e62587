-- An image takes at most 64 bytes for each node and 24 for each entry. Assumes nothing.
use Prim.Native.Nat.{◌*◌, ◌+◌, ◌<◌, ◌^◌, ◌≤◌, suc, zero, ℕ}
use native.Mathlib.Omega.{arith}
use mathlib.Core.Bool.{cond}
use mathlib.Core.List.{List, [], ◌++◌, ◌∷◌}
use mathlib.Core.Logic.{◌⊎◌, inl, inr}
use mathlib.Core.Path.{◌≡◌, refl}
use lib.Dec.{eqb}
use lib.ListN.{length, length-replicate}
use Rattle.std.proofs.lemmas.Bool.{cases_lt}
use Rattle.trie.specs.Trie.{Forest, Lists, Trie, empty, entries, entries_of, leaf, more, nodes, root}
use Rattle.image_format.proofs.ByByte.{Bytes, One, all_length, all_size, at_most, just, nobody, one_at}
use Rattle.kinds.proofs.KindRule.{kind_one, kind_three, kind_two}
use Rattle.image_format.proofs.KindThree.{Distinct}
use Rattle.image_format.proofs.ReadBack.{Limits, all_read, node_length}
use Rattle.image_format.proofs.Shapes.{count_entries, count_nodes, fitting}
use Rattle.image_format.specs.Image.{Child, as_child, ascending, children_of, children_size, entries_in, image, lists_size, node_size, nodes_in, slot_size, slots_size, table_size, with_byte}
use Rattle.kinds.specs.Kinds.{kind_of}
use Rattle.image_format.specs.Savable.{Savable, Shaped}
use Rattle.image_format.specs.Promises.{ImageSize}

-- a child's node leaves 31 bytes of its 64: 10 for its flag and table entry or its share of a table of kind 1, 2,304 / 97
unfoldable pub Lean : List Child → Type 0
Lean [] = Unit
Lean (k ∷ ks) = (k.size + 31 ≤ 64 * k.nodes + 24 * k.entries) × Lean ks

lean_size : (ks : List Child) → Lean ks → children_size ks + 30 * length ks ≤ 64 * nodes_in ks + 24 * entries_in ks
unfolding Lean children_size nodes_in entries_in
lean_size [] h = omega arith
lean_size (k ∷ ks) h = omega (arith, lean_size ks h.1)

-- a slot is a flag, and a node where there is a child
slots_sum : (m b : ℕ) (ks : List Child) → Distinct [] ks → slots_size m b ks + length (ascending m b ks) ≡ m + children_size (ascending m b ks)
unfolding slots_size slot_size ascending children_size
slots_sum zero b ks a = refl
slots_sum (suc m) b ks a = go (one_at b [] ks a) (slots_sum m (b + 1) ks a)
  where
    go : One b ks → slots_size m (b + 1) ks + length (ascending m (b + 1) ks) ≡ m + children_size (ascending m (b + 1) ks) →
        slot_size (with_byte b ks) + slots_size m (b + 1) ks + length (with_byte b ks ++ ascending m (b + 1) ks) ≡ suc m + children_size (with_byte b ks ++ ascending m (b + 1) ks)
    go (nobody e) h = rw e (omega arith)
    go (just k e) h = rw e (omega arith)

node_most : (h : Lists) (ks : List Child) → Bytes ks → Distinct [] ks → Lean ks → node_size h ks + 31 ≤ 64 * (nodes_in ks + 1) + 24 * (entries_of h + entries_in ks)
unfolding node_size table_size lists_size
node_most h ks b a l = go (cases_lt 8 (length ks)) (cases_lt 96 (length ks))
  where
    go : (8 < length ks) ⊎ (length ks ≤ 8) → (96 < length ks) ⊎ (length ks ≤ 96) →
        1 + (24 + 24 * entries_of h) + cond (eqb (kind_of (length ks)) 1) (2048 + slots_size 256 0 ks)
        (cond (eqb (kind_of (length ks)) 2) (8 + length ks * 9 + children_size (ascending 256 0 ks)) (8 + length ks * 9 + children_size ks)) + 31 ≤
        64 * (nodes_in ks + 1) + 24 * (entries_of h + entries_in ks)
    go (inr x) y = simp (kind_three (length ks) x) (omega (arith, lean_size ks l))
    go (inl x) (inr y) = simp (kind_two (length ks) x y) (omega (arith, lean_size ks l, all_size ks b))
    go (inl x) (inl y) =
        simp (kind_one (length ks) y (at_most ks b a)) (omega (arith, lean_size ks l, all_size ks b, all_length ks b, slots_sum 256 0 ks a))

all_lean : (d : ℕ) (f : Forest) → Limits d f → Lean (children_of f)
unfolding Lean Limits children_of as_child
all_lean d leaf l = tt
all_lean zero (more b h under later) l = absurd l
all_lean (suc d) (more b h under later) l = (node_most h (children_of under) l.0 l.1 (all_lean d under l.3), all_lean (suc d) later l.4)

pub image_size : ImageSize
unfolding image
image_size empty s = omega (arith, length-replicate {A = ℕ} 25 0)
image_size (root n) s =
    let f = fitting n s in
    let h = n.lists in
    let c = n.children in
    let ks = children_of c in
    omega (arith, node_length 16 0 h ks (all_read 16 c f.limits), node_most h ks f.bytes f.distinct (all_lean 16 c f.limits), count_nodes c, count_entries c)

-- a trie of the right shape within these bounds can be saved
pub savable : (t : Trie) → Shaped t → 64 * nodes t + 24 * entries t < 2 ^ 64 → Savable t
savable t s h = record { shaped = s; size = omega (arith, image_size t s) }
