-- The way down nodes with one child: what they hold is added, and the node that is reached holds the rest. Assumes nothing.
use Prim.Native.Nat.{ℕ, ◌-◌, ◌<◌}
use native.Mathlib.Omega.{arith}
use mathlib.Core.Path.{◌≡◌, refl, sym, ap, subst, ◌∙◌}
use mathlib.Core.Bool.{false}
use mathlib.Core.List.{List, [], ◌∷◌, ◌++◌, append-nil, append_assoc}
use mathlib.Core.Option.{Option as Maybe, some}
use Rattle.std.specs.Prelude.{Option, Some, ⊤}
use Rattle.definitions.specs.Location.{Location}
use Rattle.trie.specs.Trie.{Node, collect, collect_forest}
use Rattle.image_format.specs.Held.{Entry}
use Rattle.image_walk.specs.declared.Node.{Node as Parts}
use Rattle.image_walk.specs.Parts.{parts_at}
use Rattle.image_walk.specs.Tables.{slot_in, slots_from, put}
use Rattle.image_walk.specs.Bounds.{TableHere}
use Rattle.image_walk.specs.Here.{NodeHere, Matches}
use Rattle.image_walk.proofs.Here.{here_bounds, here_leaf, here_slots}
use Rattle.place_buffer.specs.declared.PlaceSet.{PlaceSet}
use Rattle.place_buffer.specs.Buffer.{Taken}
use Rattle.place_buffer.proofs.Adding.{taken_none, taken_more}
use Rattle.collecting.specs.Collected.{Standing, LeadsTo, Collected, Reached, Followed}
use Rattle.collecting.proofs.Nodes.{Both, both_taken, children_are}
use Rattle.collecting.proofs.Passing.{First, first_of, no_more}

-- ── the only child ──

-- the node n has one child, which stands at index `at`
record Only (img : List ℕ) (d at : ℕ) (n : Node) : Type 0 where
  child : Node
  here : NodeHere img d at child
  whole : collect n ≡ n.lists.prefixes ++ n.lists.chunks ++ collect child

only_slot : (img : List ℕ) (table children : ℕ) {e : Entry} → some e ≡ slot_in img table children 0 → (k : ℕ) → k ≡ 1 → slots_from img table children k 0 ≡ e ∷ []
unfolding slots_from
only_slot img table children h k z = rw z (ap (λ (o : Maybe Entry). put o []) (sym h))

module _ {img : List ℕ} {at d : ℕ} {m : Parts} (p : m ≡ parts_at img at) {next : ℕ} (k : LeadsTo img m.table next) where
  -- a node with an entry has a level below it
  level_below : {n : Node} → NodeHere img d at n → d ≡ 0 → ⊥
  level_below {n} h l =
      let g : NodeHere img 0 at n = subst (λ (i : ℕ). NodeHere img i at n) l h in
      let q : slots_from img m.table.at m.table.count m.table.count 0 ≡ [] = rw p (here_slots g ∙ (here_leaf g).1) in
      let entry : Entry = record { byte = k.byte; node = next } in
      let c : entry ∷ [] ≡ [] = sym (only_slot img m.table.at m.table.count k.slot m.table.count k.single) ∙ q in
      let y : ◌≡◌ {A = ℕ} 0 1 = cc in
      omega arith

  only_child : {n : Node} → NodeHere img d at n → Only img (d - 1) next n
  only_child {n} h = go (first_of img (d - 1) (record { byte = k.byte; node = next }) [] n.children (subst (λ (es : List Entry). Matches img (d - 1) es n.children) (only_slot img m.table.at m.table.count k.slot m.table.count k.single) (children_are p h (level_below h))))
    where
      go : First img (d - 1) [] next n.children → Only img (d - 1) next n
      go f =
          let none : collect_forest n.children ≡ collect f.node = f.whole ∙ ap (λ (ls : List Location). collect f.node ++ ls) (no_more img (d - 1) f.later f.matches) ∙ append-nil (collect f.node) in
          record { child = f.node; here = f.here; whole = ap (λ (ls : List Location). n.lists.prefixes ++ n.lists.chunks ++ ls) none }

-- ── the way down ──

pub follow_start : {img : List ℕ} {p : PlaceSet} {d at : ℕ} {m : Parts} → p.known.full ≡ false → m ≡ parts_at img at → Followed img d at p p m d
follow_start {at = at} live e = record {
  next = at;
  parts = e;
  fewer = omega arith;
  reached = λ n h. record { done = []; node = n; here = h; whole = refl; taken = taken_none live };
}

module _ {img : List ℕ} {p r : PlaceSet} {m : Parts} {d at left : ℕ} (h : Followed img d at p r m left) where
  pub followed_stands : Standing img d at → Standing img left h.next
  followed_stands k = let q = h.reached k.node k.here in record { node = q.node; here = q.here }

  pub followed_taken : (k : Standing img d at) → Taken p r (h.reached k.node k.here).done (Some tt)
  followed_taken k = (h.reached k.node k.here).taken

  pub followed_table : Standing img d at → TableHere img m.table.at m.table.count
  followed_table k = rw h.parts (here_bounds (followed_stands k).here).table

  -- what the node reached and all under it hold is the rest
  pub followed_collected : {r' : PlaceSet} {o : Option ⊤} → Collected img left h.next r r' o → Collected img d at p r' o
  followed_collected {r'} {o} c = record { taken = λ n k. go (h.reached n k) }
    where
      go : {n : Node} → Reached img left h.next p r n → Taken p r' (collect n) o
      go q = subst (λ (ls : List Location). Taken p r' ls o) (sym q.whole) (taken_more q.taken (c.taken q.node q.here))

  -- its only entry leads to a node
  module _ {next : ℕ} (e : LeadsTo img m.table next) where
    pub follow_level : Standing img d at → 0 < left
    follow_level k =
        let l : left ≡ 0 → ⊥ = level_below h.parts e (followed_stands k).here in
        omega arith

    pub follow_stands : Standing img d at → Standing img (left - 1) next
    follow_stands k = let o = only_child h.parts e (followed_stands k).here in record { node = o.child; here = o.here }

    pub follow_next : {r' : PlaceSet} {m' : Parts} → m' ≡ parts_at img next → Both img m r r' (Some tt) → Followed img d at p r' m' (left - 1)
    follow_next {r'} f t = record {
      next = next;
      parts = f;
      fewer = omega (arith, h.fewer);
      reached = λ n k. go (h.reached n k);
    }
      where
        go : {n : Node} → Reached img left h.next p r n → Reached img (left - 1) next p r' n
        go q =
            let o = only_child h.parts e q.here in
            let own = q.node.lists.prefixes ++ q.node.lists.chunks in
            record {
              done = q.done ++ own;
              node = o.child;
              here = o.here;
              whole = q.whole ∙ ap (λ (ls : List Location). q.done ++ ls) o.whole ∙ sym (append_assoc q.done own (collect o.child));
              taken = taken_more q.taken (both_taken h.parts q.here t);
            }
