-- From a node in place to the trie: its lists, its table's entries, and the child for a byte. Assumes nothing.
use Prim.Native.Nat.{ℕ, suc, ◌+◌, ◌^◌, ◌<◌}
use native.Mathlib.Omega.{arith}
use mathlib.Core.Path.{◌≡◌, refl, ap, subst}
use mathlib.Core.Bool.{Bool, true, false, cond}
use mathlib.Core.List.{List, [], ◌∷◌}
use mathlib.Core.Option.{Option, none, some}
use lib.ListN.{length}
use lib.Dec.{eqb}
use Rattle.words.specs.Words.{le64}
use Rattle.trie.specs.Rule.{Apart}
use Rattle.trie.specs.Trie.{Forest, leaf, more, Lists, Node, child}
use Rattle.image_format.proofs.Spots.{Spots}
use Rattle.image_format.specs.Held.{Entry, lists_in, table_entries}
use Rattle.definitions.specs.Location.{locations_in}
use Rattle.image_format.specs.Savable.{AllFit, AllKept, InBytes, Short}
use Rattle.image_walk.specs.Parts.{prefix_list, chunk_list, suffix_list, table_at, children_at}
use Rattle.image_walk.specs.Tables.{slots_from, node_for}
use Rattle.image_walk.specs.Bounds.{Bounds}
use Rattle.image_walk.specs.Here.{NodeHere, Matches, Found, FoundAt}
use Rattle.image_walk.proofs.Entries.{slots_here}
use Rattle.image_walk.proofs.Facts.{facts}

-- ── entries ──

matches : (s : List ℕ) (d : ℕ) (es : List Entry) (f : Forest) → length s < 2 ^ 64 → AllFit f → InBytes f → Apart f → Short (suc d) f → AllKept f → Spots s es f → Matches s d es f
unfolding Spots
matches s d [] leaf l a b p h k w = tt
matches s d [] (more c x below later) l a b p h k w = absurd w
matches s d (e ∷ es) leaf l a b p h k w = absurd w
matches s d (e ∷ es) (more c x below later) l a b p h k w =
    let here : NodeHere s d e.node (record { lists = x; children = below }) = record {
      holds = w.2;
      within = w.1;
      small = l;
      lists = a.0;
      all_lists = a.1;
      bytes = b.1;
      apart = p.1;
      short = h.0;
      kept = k.0;
      all_kept = k.1;
    } in
    (w.0, here, matches s d es later l a.2 b.2 p.2 h.1 k.2 w.3)

-- a node with no level below it has no children
no_level : (f : Forest) → Short 0 f → f ≡ leaf
no_level leaf h = refl
no_level (more b x below later) h = absurd h

no_spots : (s : List ℕ) (es : List Entry) → Spots s es leaf → es ≡ []
unfolding Spots
no_spots s [] w = refl
no_spots s (e ∷ es) w = absurd w

module _ {s : List ℕ} {d at : ℕ} {n : Node} (h : NodeHere s d at n) where
  pub here_bounds : Bounds s at
  here_bounds = (facts s d at n h).bounds

  -- ── lists ──

  pub here_lists : lists_in s at ≡ n.lists
  here_lists = (facts s d at n h).lists

  pub here_prefixes : locations_in s (le64 s (prefix_list at)) (prefix_list at + 8) ≡ n.lists.prefixes
  unfolding lists_in
  here_prefixes = ap (λ (x : Lists). x.prefixes) here_lists

  pub here_chunks : locations_in s (le64 s (chunk_list s at)) (chunk_list s at + 8) ≡ n.lists.chunks
  unfolding lists_in chunk_list
  here_chunks = ap (λ (x : Lists). x.chunks) here_lists

  pub here_suffixes : locations_in s (le64 s (suffix_list s at)) (suffix_list s at + 8) ≡ n.lists.suffixes
  unfolding lists_in chunk_list suffix_list
  here_suffixes = ap (λ (x : Lists). x.suffixes) here_lists

pub here_entries : {s : List ℕ} {d at : ℕ} {n : Node} → NodeHere s (suc d) at n → Matches s d (table_entries s at) n.children
here_entries {s} {d} {at} {n} h =
    matches s d (table_entries s at) n.children h.small h.all_lists h.bytes h.apart h.short h.all_kept (facts s (suc d) at n h).spots

pub here_leaf : {s : List ℕ} {at : ℕ} {n : Node} → NodeHere s 0 at n → (n.children ≡ leaf) × (table_entries s at ≡ [])
here_leaf {s} {at} {n} h =
    let e = no_level n.children h.short in
    (e, no_spots s (table_entries s at) (subst (Spots s (table_entries s at)) e (facts s 0 at n h).spots))

-- going over the numbers of a node's table, the empty ones left out, gives its entries
pub here_slots : {s : List ℕ} {d at : ℕ} {n : Node} → NodeHere s d at n → slots_from s (table_at s at) (children_at s at) (children_at s at) 0 ≡ table_entries s at
here_slots {s} {d} {at} h = slots_here s at (here_bounds h)

-- ── the child for a byte ──

pub matches_child : (s : List ℕ) (d : ℕ) (es : List Entry) (f : Forest) (b : ℕ) → Matches s d es f → Found s d (node_for es b) (child f b)
unfolding node_for
matches_child s d [] leaf b m = tt
matches_child s d [] (more c x below later) b m = absurd m
matches_child s d (e ∷ es) leaf b m = absurd m
matches_child s d (e ∷ es) (more c x below later) b m = rw m.0 (go (eqb c b) (matches_child s d es later b m.2))
  where
    go : (o : Bool) → Found s d (node_for es b) (child later b) →
        Found s d (cond o (some e.node) (node_for es b)) (cond o (some (record { lists = x; children = below })) (child later b))
    go true ih = m.1
    go false ih = ih

pub here_child : {s : List ℕ} {d at : ℕ} {n : Node} → NodeHere s (suc d) at n → (b : ℕ) → Found s d (node_for (table_entries s at) b) (child n.children b)
here_child {s} {d} {at} {n} h b = matches_child s d (table_entries s at) n.children b (here_entries h)

-- ── what was found ──

-- found in place, it is found in the trie and stands there
pub found_some : (s : List ℕ) (d : ℕ) (x : Option ℕ) (o : Option Node) (p : ℕ) → Found s d x o → x ≡ some p → FoundAt s d p o
found_some s d none o p f e = absurd (let z : ◌≡◌ {A = ℕ} 0 1 = cc in omega arith)
found_some s d (some q) none p f e = absurd f
found_some s d (some q) (some m) p f e =
    let g : q ≡ p = cc in
    record { node = m; there = refl; here = subst (λ (i : ℕ). NodeHere s d i m) g f }

-- not found in place, it is not in the trie
pub found_none : (s : List ℕ) (d : ℕ) (x : Option ℕ) (o : Option Node) → Found s d x o → x ≡ none → o ≡ none
found_none s d none none f e = refl
found_none s d none (some m) f e = absurd f
found_none s d (some q) o f e = absurd (let z : ◌≡◌ {A = ℕ} 0 1 = cc in omega arith)
