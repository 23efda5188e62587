-- A table's entries one after another against the siblings that they lead to, and the child for a byte. Assumes nothing.
use Prim.Native.Nat.{ℕ, suc, ◌+◌, ◌-◌, ◌≤◌, ◌<◌}
use native.Mathlib.Omega.{arith}
use mathlib.Core.Path.{◌≡◌, refl, sym, ap, subst, ◌∙◌}
use mathlib.Core.List.{List, [], ◌∷◌}
use mathlib.Core.Option.{Option, none, some}
use Rattle.trie.specs.Trie.{Lists, Forest, leaf, more, child}
use Rattle.image_format.specs.Held.{Entry}
use Rattle.image_walk.specs.Tables.{put, slot_in, slots_from, entries_at, node_for}
use Rattle.image_walk.specs.Here.{NodeHere, Matches, Found}
use Rattle.image_walk.proofs.Entries.{slots_are}
use Rattle.node_rule.specs.Parts.{Ahead, TableOf}
use Rattle.image_walk.proofs.Here.{matches_child}

-- ── the next entry ──

-- an entry leads to the first of the siblings, and the later entries to the later ones
pub record Next (s : List ℕ) (d table children j : ℕ) (e : Entry) (f : Forest) : Type 0 where
  pub lists : Lists
  pub below : Forest
  pub later : Forest
  pub is : f ≡ more e.byte lists below later
  pub here : NodeHere s (d - 1) e.node (record { lists = lists; children = below })
  pub ahead : Ahead s d table children (j + 1) later

next_in : (s : List ℕ) (d : ℕ) (e : Entry) (es : List Entry) (f : Forest) → Matches s (d - 1) (e ∷ es) f → (h : Lists) × (below : Forest) × (later : Forest) × (f ≡ more e.byte h below later) × NodeHere s (d - 1) e.node (record { lists = h; children = below }) × Matches s (d - 1) es later
next_in s d e es leaf m = absurd m
next_in s d e es (more b h below later) m = (h, below, later, rw m.0 refl, m.1, m.2)

none_in : (s : List ℕ) (d : ℕ) (f : Forest) → Matches s d [] f → f ≡ leaf
none_in s d leaf m = refl
none_in s d (more b h below later) m = absurd m

module _ (s : List ℕ) (d table children j : ℕ) (f : Forest) where
  one_slot : j < children → slots_from s table children (children - j) j ≡ put (slot_in s table children j) (slots_from s table children (children - (j + 1)) (j + 1))
  unfolding slots_from
  one_slot l = let e : children - j ≡ suc (children - (j + 1)) = omega arith in rw e refl

  pub slot_taken : (e : Entry) → j < children → some e ≡ slot_in s table children j → Ahead s d table children j f → Next s d table children j e f
  slot_taken e l q m =
      let es = slots_from s table children (children - (j + 1)) (j + 1) in
      let m' : Matches s (d - 1) (e ∷ es) f = subst (λ (x : List Entry). Matches s (d - 1) x f) (one_slot l ∙ ap (λ (o : Option Entry). put o es) (sym q)) m in
      let n = next_in s d e es f m' in
      record { lists = n.0; below = n.1; later = n.2; is = n.3; here = n.4; ahead = n.5 }

  pub slot_empty : j < children → none ≡ slot_in s table children j → Ahead s d table children j f → Ahead s d table children (j + 1) f
  slot_empty l q m =
      let es = slots_from s table children (children - (j + 1)) (j + 1) in
      subst (λ (x : List Entry). Matches s (d - 1) x f) (one_slot l ∙ ap (λ (o : Option Entry). put o es) (sym q)) m

  pub slots_end : children ≤ j → Ahead s d table children j f → f ≡ leaf
  unfolding slots_from
  slots_end l m = let e : children - j ≡ 0 = omega arith in none_in s (d - 1) f (rw e at m)

-- ── the child for a byte ──

-- what the table has for a byte is the child by that byte
pub table_child : (s : List ℕ) (d table children : ℕ) (f : Forest) → TableOf s d table children f → (b : ℕ) → Found s (d - 1) (node_for (entries_at s table children) b) (child f b)
table_child s d table children f t b =
    let z : children - 0 ≡ children = omega arith in
    let m : Matches s (d - 1) (slots_from s table children children 0) f = rw z at t.leads in
    matches_child s (d - 1) (entries_at s table children) f b (subst (λ (x : List Entry). Matches s (d - 1) x f) (slots_are s table children) m)
