-- One node: its lists in place are those of the trie, and its table leads to its children. Assumes nothing.
use Prim.Native.Nat.{ℕ, zero, suc, ◌+◌, ◌*◌, ◌-◌, ◌≤◌}
use native.Mathlib.Omega.{arith}
use mathlib.Core.Path.{◌≡◌, refl, sym, ap, subst, ◌∙◌}
use mathlib.Core.Bool.{false}
use mathlib.Core.List.Memᴰ.{append_left}
use mathlib.Core.List.{List, ◌++◌, append-nil}
use Rattle.std.specs.Prelude.{Option, Some, None, ⊤}
use lib.ListN.{length}
use Rattle.definitions.specs.Location.{Location, locations_in}
use Rattle.trie.specs.Trie.{Forest, leaf, Node, collect, collect_forest}
use Rattle.image_format.specs.Held.{table_entries}
use Rattle.image_walk.specs.declared.Node.{Node as Parts}
use Rattle.image_walk.specs.Parts.{parts_at}
use Rattle.image_walk.specs.Tables.{slots_from}
use Rattle.image_walk.specs.Here.{NodeHere, Laid, Matches}
use Rattle.image_walk.proofs.Here.{here_bounds, here_prefixes, here_chunks, here_suffixes, here_entries, here_leaf}
use Rattle.image_walk.proofs.Entries.{slots_here}
use Rattle.place_buffer.specs.declared.PlaceSet.{PlaceSet}
use Rattle.place_buffer.specs.Buffer.{Taken}
use Rattle.place_buffer.proofs.Adding.{taken_none, taken_over, taken_more}
use Rattle.collecting.specs.Collected.{Standing, Siblings, Collected, AllCollected, Ended}

-- ── its parts lie within the image ──

module _ {img : List ℕ} {at : ℕ} {m : Parts} (e : m ≡ parts_at img at) (h : Laid img at) where
  pub prefixes_within : m.prefixes.at + m.prefixes.count * 24 ≤ length img
  prefixes_within = rw e (omega (arith, (here_bounds h.here).prefixes))

  pub chunks_within : m.chunks.at + m.chunks.count * 24 ≤ length img
  chunks_within = rw e (omega (arith, (here_bounds h.here).chunks))

  pub suffixes_within : m.suffixes.at + m.suffixes.count * 24 ≤ length img
  suffixes_within = rw e (omega (arith, (here_bounds h.here).suffixes))

-- ── its lists ──

-- adding the prefixes and chunks in place to the set p made r of it
abbrev pub Both : List ℕ → Parts → PlaceSet → PlaceSet → Option ⊤ → Type 0
Both img m p r o = Taken p r (locations_in img m.prefixes.count m.prefixes.at ++ locations_in img m.chunks.count m.chunks.at) o

-- an empty list adds nothing
pub empty_taken : (img : List ℕ) (n at : ℕ) {p : PlaceSet} → p.known.full ≡ false → n ≡ 0 → Taken p p (locations_in img n at) (Some tt)
unfolding locations_in
empty_taken img n at live z = rw z (taken_none live)

module _ {img : List ℕ} {at d : ℕ} {m : Parts} {n : Node} (e : m ≡ parts_at img at) (h : NodeHere img d at n) where
  prefixes_are : locations_in img m.prefixes.count m.prefixes.at ≡ n.lists.prefixes
  prefixes_are = rw e (here_prefixes h)

  chunks_are : locations_in img m.chunks.count m.chunks.at ≡ n.lists.chunks
  chunks_are = rw e (here_chunks h)

  suffixes_are : locations_in img m.suffixes.count m.suffixes.at ≡ n.lists.suffixes
  suffixes_are = rw e (here_suffixes h)

  pub children_are : (d ≡ 0 → ⊥) → Matches img (d - 1) (slots_from img m.table.at m.table.count m.table.count 0) n.children
  children_are z = rw (e, slots_here img at (here_bounds h)) (go d z h)
    where
      go : (k : ℕ) → (k ≡ 0 → ⊥) → NodeHere img k at n → Matches img (k - 1) (table_entries img at) n.children
      go zero z h = absurd (z refl)
      go (suc k) z h = let f : suc k - 1 ≡ k = omega arith in rw f (here_entries h)

  -- a node with no level below it has no children
  leaf_is : d ≡ 0 → n.children ≡ leaf
  leaf_is z = (here_leaf (subst (λ (k : ℕ). NodeHere img k at n) z h)).0

  pub both_taken : {p r : PlaceSet} {o : Option ⊤} → Both img m p r o → Taken p r (n.lists.prefixes ++ n.lists.chunks) o
  both_taken {p} {r} {o} t = subst (λ (ls : List Location). Taken p r ls o) (rw (prefixes_are, chunks_are) refl) t

  suffixes_taken : {p r : PlaceSet} {o : Option ⊤} → Taken p r (locations_in img m.suffixes.count m.suffixes.at) o → Taken p r n.lists.suffixes o
  suffixes_taken {p} {r} {o} t = subst (λ (ls : List Location). Taken p r ls o) suffixes_are t

  suffixes_chunks : {p a r : PlaceSet} {o : Option ⊤} → Taken p a (locations_in img m.suffixes.count m.suffixes.at) (Some tt) → Taken a r (locations_in img m.chunks.count m.chunks.at) o → Taken p r (n.lists.suffixes ++ n.lists.chunks) o
  suffixes_chunks {a = a} {r = r} {o = o} t u = taken_more (suffixes_taken t) (subst (λ (ls : List Location). Taken a r ls o) chunks_are u)

  collect_leaf : {p r : PlaceSet} {o : Option ⊤} → d ≡ 0 → Both img m p r o → Taken p r (collect n) o
  collect_leaf {p} {r} {o} z t =
      let none : n.lists.prefixes ++ n.lists.chunks ≡ collect n = sym (ap (λ (f : Forest). n.lists.prefixes ++ n.lists.chunks ++ collect_forest f) (leaf_is z) ∙ append-nil (n.lists.prefixes ++ n.lists.chunks)) in
      subst (λ (ls : List Location). Taken p r ls o) none (both_taken t)

  collect_below : {p a r : PlaceSet} {o : Option ⊤} → (d ≡ 0 → ⊥) → Both img m p a (Some tt) → AllCollected img (d - 1) m.table.at m.table.count a r o → Taken p r (collect n) o
  collect_below z t v = taken_more (both_taken t) (v.taken n.children (children_are z))

  collect_over : {p r : PlaceSet} → Both img m p r None → Taken p r (collect n) None
  collect_over t = taken_over (both_taken t) (λ x k. append_left (collect_forest n.children) k)

-- ── what the functions answer ──

pub siblings_of : {img : List ℕ} {at d : ℕ} {m : Parts} → m ≡ parts_at img at → Standing img d at → (d ≡ 0 → ⊥) → Siblings img (d - 1) m.table.at m.table.count
siblings_of {img} {at} {d} {m} e h z = record {
  forest = h.node.children;
  bounds = rw e (here_bounds h.here).table;
  matches = children_are e h.here z;
}

module _ {img : List ℕ} {at : ℕ} {m : Parts} (e : m ≡ parts_at img at) {p a : PlaceSet} where
  pub collected_leaf : {d : ℕ} {o : Option ⊤} → d ≡ 0 → Both img m p a o → Collected img d at p a o
  collected_leaf z t = record { taken = λ n h. collect_leaf e h z t }

  -- the node's own have no room
  pub collected_over : {d : ℕ} → Both img m p a None → Collected img d at p a None
  collected_over t = record { taken = λ n h. collect_over e h t }

  pub ended_over : Taken p a (locations_in img m.suffixes.count m.suffixes.at) None → Ended img at p a None
  ended_over t = record { taken = λ d n h. taken_over (suffixes_taken e h t) (λ x k. append_left n.lists.chunks k) }

  module _ {r : PlaceSet} {o : Option ⊤} where
    pub collected_below : {d : ℕ} → (d ≡ 0 → ⊥) → Both img m p a (Some tt) → AllCollected img (d - 1) m.table.at m.table.count a r o → Collected img d at p r o
    collected_below z t v = record { taken = λ n h. collect_below e h z t v }

    pub ended : Taken a r (locations_in img m.chunks.count m.chunks.at) o → Taken p a (locations_in img m.suffixes.count m.suffixes.at) (Some tt) → Ended img at p r o
    ended u t = record { taken = λ d n h. suffixes_chunks e h t u }
