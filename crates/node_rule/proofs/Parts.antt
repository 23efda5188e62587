-- The parts of the node that stands at an index are those of its node in the trie. Assumes nothing.
use Prim.Native.Nat.{ℕ, zero, suc, ◌-◌, ◌≤◌}
use native.Mathlib.Omega.{arith}
use mathlib.Core.Path.{◌≡◌, refl, sym, subst}
use mathlib.Core.Bool.{Bool, true, false, cond}
use mathlib.Core.List.{List}
use lib.ListN.{get_or}
use lib.Dec.{eqb}
use borrow.Author.Tests.{ne_eqb}
use Rattle.words.specs.Words.{le64}
use Rattle.words.specs.Holding.{Holds}
use Rattle.definitions.proofs.Views.{Eq, eq}
use Rattle.trie.specs.Trie.{Forest, leaf, Node}
use Rattle.image_format.specs.Held.{Entry, table_entries}
use Rattle.image_format.specs.Image.{children_of, node_bytes}
use Rattle.kinds.specs.Kinds.{kind_of}
use Rattle.image_walk.specs.Parts.{behind_lists, table_at, children_at, parts_at}
use Rattle.image_walk.specs.Tables.{slot_in, slots_from}
use Rattle.image_walk.specs.Bounds.{Bounds}
use Rattle.image_walk.specs.Here.{NodeHere, Matches}
use Rattle.image_walk.proofs.Here.{here_bounds, here_chunks, here_entries, here_leaf, here_prefixes, here_slots, here_suffixes}
use Rattle.node_rule.specs.Parts.{TableOf, PartsOf}

-- a table has 256 entries, or at most 96
few_children : (s : List ℕ) (at : ℕ) → Bounds s at → ((get_or s at 0 ≡ 1 → ⊥) → children_at s at ≤ 96) × (children_at s at ≤ 256)
unfolding children_at
few_children s at b = ((λ z. rw (ne_eqb _ _ z) (b.few z)), go (eqb (get_or s at 0) 1) (eq (get_or s at 0) 1))
  where
    go : (o : Bool) → Eq o (get_or s at 0) 1 → cond o 256 (le64 s (behind_lists s at)) ≤ 256
    go true e = omega arith
    go false e = omega (arith, b.few e)

-- a node with no children is of kind 3
kind_three : (s : List ℕ) (d at : ℕ) (n : Node) → NodeHere s d at n → n.children ≡ leaf → get_or s at 0 ≡ 3
unfolding node_bytes children_of kind_of Holds
kind_three s d at n h e = let w : Holds s at (node_bytes at n.lists (children_of leaf)) = subst (λ (f : Forest). Holds s at (node_bytes at n.lists (children_of f))) e h.holds in w.0

-- a table that leads to nothing and has fewer than 256 entries has none
none_ahead : (s : List ℕ) (d table children : ℕ) → children ≤ 96 → Matches s d (slots_from s table children children 0) leaf → children ≡ 0
unfolding slots_from slot_in
none_ahead s d table zero l m = refl
none_ahead s d table (suc n) l m = let z : suc n ≡ 256 → ⊥ = omega arith in absurd (rw (ne_eqb (suc n) 256 z) at m)

entries_lead : (s : List ℕ) (d at : ℕ) (n : Node) → NodeHere s d at n → Matches s (d - 1) (table_entries s at) n.children
entries_lead s zero at n h = let e = here_leaf h in rw (e.0, e.1) tt
entries_lead s (suc d) at n h = let z : suc d - 1 ≡ d = omega arith in rw z (here_entries h)

no_levels : (s : List ℕ) (d at : ℕ) (n : Node) → NodeHere s d at n → d ≡ 0 → n.children ≡ leaf
no_levels s d at n h e = (here_leaf (subst (λ (x : ℕ). NodeHere s x at n) e h)).0

table_leads : (s : List ℕ) (d at : ℕ) (n : Node) → NodeHere s d at n → Matches s (d - 1) (slots_from s (table_at s at) (children_at s at) (children_at s at) 0) n.children
table_leads s d at n h = subst (λ (es : List Entry). Matches s (d - 1) es n.children) (sym (here_slots h)) (entries_lead s d at n h)

pub table_of : (s : List ℕ) (d at : ℕ) (n : Node) → NodeHere s d at n → TableOf s d (table_at s at) (children_at s at) n.children
table_of s d at n h =
    let b = here_bounds h in
    let z : children_at s at - 0 ≡ children_at s at = omega arith in
    record { within = b.table; most = (few_children s at b).1; leads = rw z (table_leads s d at n h); ends = no_levels s d at n h }

pub parts_of : (s : List ℕ) (d at : ℕ) (n : Node) → NodeHere s d at n → PartsOf s d (parts_at s at) n
parts_of s d at n h =
    let b = here_bounds h in
    record {
      prefixes = here_prefixes h;
      chunks = here_chunks h;
      suffixes = here_suffixes h;
      prefixes_in = omega (arith, b.prefixes);
      chunks_in = omega (arith, b.chunks);
      suffixes_in = omega (arith, b.suffixes);
      table = table_of s d at n h;
      childless = none;
    }
  where
    none : n.children ≡ leaf → children_at s at ≡ 0
    none e =
        let b = here_bounds h in
        let k = kind_three s d at n h e in
        let z : get_or s at 0 ≡ 1 → ⊥ = omega arith in
        none_ahead s (d - 1) (table_at s at) (children_at s at) ((few_children s at b).0 z) (rw e at (table_leads s d at n h))
