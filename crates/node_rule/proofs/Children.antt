-- The chunks and suffixes of the children in a table, one entry after another. Assumes nothing.
use Prim.Native.Nat.{ℕ, ◌+◌, ◌*◌, ◌-◌, ◌≤◌, ◌<◌}
use native.Mathlib.Omega.{arith}
use mathlib.Core.Path.{◌≡◌, refl, sym, ap, ◌∙◌}
use mathlib.Core.List.{List, ◌++◌, append-nil}
use mathlib.Core.Option.{none, some}
use lib.ListN.{length}
use Rattle.definitions.specs.Location.{Location}
use Rattle.trie.specs.Trie.{Forest}
use Rattle.trie.specs.Test.{child_lists, and_list}
use Rattle.location_lists.specs.declared.Lists.{Lists}
use Rattle.location_lists.specs.Lists.{held, AreLists, lists_in}
use Rattle.location_lists.proofs.Buffers.{no_lists}
use Rattle.image_format.specs.Held.{Entry}
use Rattle.image_walk.specs.Parts.{parts_at}
use Rattle.image_walk.specs.Tables.{slot_in}
use Rattle.image_walk.specs.Here.{Laid}
use Rattle.node_rule.specs.Parts.{Ahead, TableOf, PartsOf, HasTable, HasParts}
use Rattle.node_rule.specs.OneNode.{with_two, ChildLists}
use Rattle.node_rule.proofs.Tables.{Next, slot_taken, slot_empty, slots_end}
use Rattle.node_rule.proofs.Parts.{parts_of}
use Rattle.node_rule.proofs.TwoLists.{count_two, length_two, two_among, two_valid}
use Rattle.image_walk.specs.declared.Node.{Node as Parts}

-- ── the node of an entry ──

pub next_laid : {s : List ℕ} {d table children j : ℕ} {e : Entry} {f : Forest} → Next s d table children j e f → Laid s e.node
next_laid {d = d} x = record { depth = d - 1; node = record { lists = x.lists; children = x.below }; here = x.here }

-- its parts
pub next_parts : {s : List ℕ} {d table children j : ℕ} {e : Entry} {f : Forest} (c : Parts) → c ≡ parts_at s e.node → (x : Next s d table children j e f) →
    PartsOf s (d - 1) c (record { lists = x.lists; children = x.below })
next_parts {s} {d} {e = e} c q x = rw q (parts_of s (d - 1) e.node (record { lists = x.lists; children = x.below }) x.here)

module _ (s : List ℕ) (table children : ℕ) where
  -- the lists that there are, and then those of the siblings ahead, are those of all
  pub record Listed (d j : ℕ) (lists : Lists) (f : Forest) : Type 0 where
    pub rest : Forest
    pub ahead : Ahead s d table children j rest
    pub lists_are : lists_in s lists ++ child_lists rest ≡ child_lists f

  pub record Listing (j : ℕ) (lists : Lists) : Type 0 where
    pub valid : AreLists s lists
    pub few : lists.count ≤ j * 2
    pub size : 512 ≤ length lists.each.now
    pub listed : (d : ℕ) (f : Forest) → TableOf s d table children f → Listed d j lists f

  pub listing_start : (lists : Lists) → lists.count ≡ 0 → 512 ≤ length lists.each.now → Listing 0 lists
  listing_start lists z k = record { valid = no_lists s lists z; few = omega arith; size = k; listed = λ d f t. record { rest = f; ahead = t.leads; lists_are = rw z refl } }

  module _ (j : ℕ) (lists : Lists) (i : Listing j lists) (l : j < children) where
    pub listing_skip : none ≡ slot_in s table children j → Listing (j + 1) lists
    listing_skip q = record { valid = i.valid; few = omega (arith, i.few); size = i.size; listed = step }
      where
        step : (d : ℕ) (f : Forest) → TableOf s d table children f → Listed d (j + 1) lists f
        step d f t =
            let x = i.listed d f t in
            record { rest = x.rest; ahead = slot_empty s d table children j x.rest l q x.ahead; lists_are = x.lists_are }

    module _ (e : Entry) (q : some e ≡ slot_in s table children j) where
      met : (d : ℕ) (f : Forest) → (t : TableOf s d table children f) → Next s d table children j e (i.listed d f t).rest
      met d f t = let x = i.listed d f t in slot_taken s d table children j x.rest e l q x.ahead

      pub listing_laid : HasTable s table children → Laid s e.node
      listing_laid h = next_laid (met h.depth h.forest h.is)

      pub listing_parts : HasTable s table children → (c : Parts) → c ≡ parts_at s e.node → HasParts s c
      listing_parts h c g =
          let x = met h.depth h.forest h.is in
          record { depth = h.depth - 1; node = record { lists = x.lists; children = x.below }; is = next_parts c g x }

      room : HasTable s table children → lists.count + 2 ≤ length lists.each.now
      room h = omega (arith, i.few, i.size, h.is.most)

      pub listing_add : HasTable s table children → (c : Parts) → c ≡ parts_at s e.node → Listing (j + 1) (with_two lists c.chunks c.suffixes)
      listing_add h c g =
          let p = (listing_parts h c g).is in
          record {
            valid = two_valid lists c.chunks c.suffixes s (room h) p.chunks_in p.suffixes_in i.valid;
            few = omega (arith, i.few, count_two lists c.chunks c.suffixes);
            size = omega (arith, length_two lists c.chunks c.suffixes, i.size);
            listed = step;
          }
        where
          step : (d : ℕ) (f : Forest) → TableOf s d table children f → Listed d (j + 1) (with_two lists c.chunks c.suffixes) f
          step d f t =
              let o = i.listed d f t in
              let x = met d f t in
              let p = next_parts c g x in
              let later : List (List Location) = child_lists x.later in
              let before : List (List Location) = lists_in s lists in
              let a = two_among lists c.chunks c.suffixes s later (room h) in
              let b : before ++ and_list (held s c.chunks) (and_list (held s c.suffixes) later) ≡ before ++ and_list x.lists.chunks (and_list x.lists.suffixes later) = rw (p.chunks, p.suffixes) refl in
              let k : before ++ and_list x.lists.chunks (and_list x.lists.suffixes later) ≡ child_lists f = ap (λ (y : Forest). before ++ child_lists y) (sym x.is) ∙ o.lists_are in
              record { rest = x.later; ahead = x.ahead; lists_are = a ∙ b ∙ k }

  pub listing_done : (j : ℕ) (lists : Lists) → Listing j lists → children ≤ j → ChildLists s table children lists
  listing_done j lists i l = record { valid = i.valid; are = end }
    where
      end : (d : ℕ) (f : Forest) → TableOf s d table children f → lists_in s lists ≡ child_lists f
      end d f t =
          let x = i.listed d f t in
          let e = slots_end s d table children j x.rest l x.ahead in
          sym (append-nil (lists_in s lists)) ∙ (rw e at x.lists_are)
