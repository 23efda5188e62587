-- The loop over a table: the entries before number j are collected, those from j on lead to the siblings that are left. Assumes nothing.
use Prim.Native.Nat.{ℕ, suc, ◌+◌, ◌-◌, ◌≤◌, ◌<◌}
use native.Mathlib.Omega.{arith}
use mathlib.Core.Path.{◌≡◌, refl, sym, ap, subst, ◌∙◌}
use mathlib.Core.Bool.{false}
use mathlib.Core.List.Memᴰ.{append_left}
use mathlib.Core.List.{List, [], ◌∷◌, ◌++◌, append-nil, append_assoc}
use mathlib.Core.Option.{Option as Maybe, none, some}
use Rattle.std.specs.Prelude.{Some, None}
use Rattle.definitions.specs.Location.{Location}
use Rattle.trie.specs.Trie.{Forest, leaf, more, Node, collect, collect_forest}
use Rattle.image_format.specs.Held.{Entry}
use Rattle.image_walk.specs.Tables.{slot_in, slots_from, put}
use Rattle.image_walk.specs.Here.{NodeHere, Matches}
use Rattle.place_buffer.specs.declared.PlaceSet.{PlaceSet}
use Rattle.place_buffer.specs.Buffer.{Taken}
use Rattle.place_lookup.specs.Lookup.{Within}
use Rattle.place_buffer.proofs.Adding.{taken_none, taken_more, taken_over}
use Rattle.collecting.specs.Collected.{Standing, Siblings, Collected, AllCollected}

-- of the siblings f the first are collected, which makes r of p, and the entries from number j on lead to the rest
pub record Passed (img : List ℕ) (d table children j : ℕ) (p r : PlaceSet) (f : Forest) : Type 0 where
  pub done : List Location
  pub rest : Forest
  pub whole : collect_forest f ≡ done ++ collect_forest rest
  pub matches : Matches img d (slots_from img table children (children - j) j) rest
  pub taken : Taken p r done (Some tt)

-- so of all siblings that the table leads to
pub record Passing (img : List ℕ) (d table children j : ℕ) (p r : PlaceSet) : Type 0 where
  pub within : j ≤ children
  pub passed : (f : Forest) → Matches img d (slots_from img table children children 0) f → Passed img d table children j p r f

-- ── siblings by the first entry ──

-- the first sibling stands where the first entry leads
pub record First (img : List ℕ) (d : ℕ) (es : List Entry) (at : ℕ) (f : Forest) : Type 0 where
  pub node : Node
  pub later : Forest
  pub here : NodeHere img d at node
  pub whole : collect_forest f ≡ collect node ++ collect_forest later
  pub matches : Matches img d es later

pub first_of : (img : List ℕ) (d : ℕ) (e : Entry) (es : List Entry) (f : Forest) → Matches img d (e ∷ es) f → First img d es e.node f
first_of img d e es leaf m = absurd m
first_of img d e es (more b h below later) m = record { node = record { lists = h; children = below }; later = later; here = m.1; whole = refl; matches = m.2 }

pub no_more : (img : List ℕ) (d : ℕ) (f : Forest) → Matches img d [] f → collect_forest f ≡ []
no_more img d leaf m = refl
no_more img d (more b h below later) m = absurd m

-- ── the slots from number j on ──

module _ (img : List ℕ) (table children j : ℕ) where
  slots_next : j < children → (o : Maybe Entry) → o ≡ slot_in img table children j → slots_from img table children (children - j) j ≡ put o (slots_from img table children (children - (j + 1)) (j + 1))
  unfolding slots_from
  slots_next h o e =
      let f : children - j ≡ suc (children - (j + 1)) = omega arith in
      rw (f, e) refl

  slots_end : children ≤ j → slots_from img table children (children - j) j ≡ []
  unfolding slots_from
  slots_end h = let f : children - j ≡ 0 = omega arith in rw f refl

-- ── the loop ──

pub passing_none : {img : List ℕ} {p : PlaceSet} (d table children : ℕ) → p.known.full ≡ false → Passing img d table children 0 p p
passing_none {img} d table children live = record {
  within = omega arith;
  passed = λ f m. record {
    done = [];
    rest = f;
    whole = refl;
    matches = let e : children - 0 ≡ children = omega arith in rw e m;
    taken = taken_none live;
  };
}

module _ {img : List ℕ} {p r : PlaceSet} {d table children j : ℕ} (h : Passing img d table children j p r) where
  -- what the table leads to, as far as it is collected
  pub passing_taken : (k : Siblings img d table children) → Taken p r (h.passed k.forest k.matches).done (Some tt)
  passing_taken k = (h.passed k.forest k.matches).taken

  pub passing_done : children ≤ j → AllCollected img d table children p r (Some tt)
  passing_done l = record { taken = λ f m. go f (h.passed f m) }
    where
      go : (f : Forest) → Passed img d table children j p r f → Taken p r (collect_forest f) (Some tt)
      go f q =
          let none : collect_forest q.rest ≡ [] = no_more img d q.rest (subst (λ (es : List Entry). Matches img d es q.rest) (slots_end img table children j l) q.matches) in
          let e : collect_forest f ≡ q.done = q.whole ∙ ap (λ (ls : List Location). q.done ++ ls) none ∙ append-nil q.done in
          subst (λ (ls : List Location). Taken p r ls (Some tt)) (sym e) q.taken

  -- slot j is empty
  pub passing_empty : j < children → none ≡ slot_in img table children j → Passing img d table children (j + 1) p r
  passing_empty l e = record { within = omega arith; passed = λ f m. go f (h.passed f m) }
    where
      go : (f : Forest) → Passed img d table children j p r f → Passed img d table children (j + 1) p r f
      go f q = record {
        done = q.done;
        rest = q.rest;
        whole = q.whole;
        matches = subst (λ (es : List Entry). Matches img d es q.rest) (slots_next img table children j l none e) q.matches;
        taken = q.taken;
      }

  -- slot j leads to a node
  module _ (l : j < children) {b at : ℕ} (e : some (record { byte = b; node = at }) ≡ slot_in img table children j) where
    first : {f : Forest} → Passed img d table children j p r f → (k : Forest) → Matches img d (slots_from img table children (children - j) j) k → First img d (slots_from img table children (children - (j + 1)) (j + 1)) at k
    first q k m =
        first_of img d (record { byte = b; node = at }) (slots_from img table children (children - (j + 1)) (j + 1)) k
        (subst (λ (es : List Entry). Matches img d es k) (slots_next img table children j l (some (record { byte = b; node = at })) e) m)

    pub passing_stands : Siblings img d table children → Standing img d at
    passing_stands k = go (h.passed k.forest k.matches)
      where
        go : {f : Forest} → Passed img d table children j p r f → Standing img d at
        go q = let x = first q q.rest q.matches in record { node = x.node; here = x.here }

    pub passing_child : {r' : PlaceSet} → Collected img d at r r' (Some tt) → Passing img d table children (j + 1) p r'
    passing_child {r'} c = record { within = omega arith; passed = λ f m. go f (h.passed f m) }
      where
        go : (f : Forest) → Passed img d table children j p r f → Passed img d table children (j + 1) p r' f
        go f q =
            let x = first q q.rest q.matches in
            record {
              done = q.done ++ collect x.node;
              rest = x.later;
              whole = q.whole ∙ ap (λ (ls : List Location). q.done ++ ls) x.whole ∙ sym (append_assoc q.done (collect x.node) (collect_forest x.later));
              matches = x.matches;
              taken = taken_more q.taken (c.taken x.node x.here);
            }

    -- what that holds has no room, whatever else were collected
    pub passing_over : {r' : PlaceSet} → Collected img d at r r' None → AllCollected img d table children p r' None
    passing_over {r'} c = record { taken = λ f m. go f (h.passed f m) }
      where
        go : (f : Forest) → Passed img d table children j p r f → Taken p r' (collect_forest f) None
        go f q =
            let x = first q q.rest q.matches in
            let whole : collect_forest f ≡ q.done ++ collect x.node ++ collect_forest x.later = q.whole ∙ ap (λ (ls : List Location). q.done ++ ls) x.whole ∙ sym (append_assoc q.done (collect x.node) (collect_forest x.later)) in
            taken_over (taken_more q.taken (c.taken x.node x.here)) (subst (Within (q.done ++ collect x.node)) (sym whole) (λ y k. append_left (collect_forest x.later) k))
