-- A node and its children in place: what is due behind them, one entry of the table after another. Assumes nothing.
use Prim.Native.Nat.{ℕ, ◌+◌, ◌-◌, ◌≤◌, ◌<◌}
use native.Mathlib.Omega.{arith}
use mathlib.Core.Path.{◌≡◌, refl, sym, ap, subst, ◌∙◌}
use mathlib.Core.Bool.{Bool, true, false, cond}
use mathlib.Core.List.{List, [], ◌∷◌}
use mathlib.Core.Option.{none, some}
use lib.ListN.{length}
use Rattle.std.specs.Prelude.{Option, None, Some}
use Rattle.definitions.specs.Location.{Location}
use Rattle.location_lists.specs.Lists.{held, Within}
use Rattle.definitions.proofs.Locations.{length_locations}
use Rattle.trie.specs.Trie.{Forest, more, Node}
use Rattle.trie.specs.Test.{is_nil}
use Rattle.image_format.specs.Held.{Entry}
use Rattle.image_walk.specs.declared.Node.{Node as Parts}
use Rattle.image_walk.specs.Parts.{parts_at}
use Rattle.image_walk.specs.Tables.{slot_in}
use Rattle.image_walk.specs.Here.{NodeHere}
use Rattle.lined_locations.specs.declared.Line.{Line}
use Rattle.lined_locations.specs.Line.{location_of}
use Rattle.node_rule.specs.Parts.{Ahead, PartsOf}
use Rattle.node_rule.proofs.Parts.{parts_of}
use Rattle.node_rule.proofs.Tables.{Next, slot_taken, slot_empty, slots_end}
use Rattle.image_conflicts.specs.Due.{Ending, AllEnding, chunks_due, then_due, forest_due, node_due}
use Rattle.image_conflicts.specs.Cited.{NodeAsked, NodeSays, ChildrenAsked, ChildrenSays}

-- ── one node ──

module _ (v : Line) (at left : ℕ) (p : Parts) (g : p ≡ parts_at v.bytes.now at) where
  parts_here : (x : Node) → NodeHere v.bytes.now left at x → PartsOf v.bytes.now left p x
  parts_here x h = rw g (parts_of v.bytes.now left at x h)

  module _ (m : ℕ) (a : NodeAsked v.bytes.now at m left) where
    pub chunks_in : Within v.bytes.now p.chunks
    chunks_in = (parts_here a.node a.here).chunks_in

    pub chunks_ending : Ending m (held v.bytes.now p.chunks)
    chunks_ending = subst (Ending m) (sym (parts_here a.node a.here).chunks) a.ending

    pub children_asked : ChildrenAsked v.bytes.now p (m + 1) left
    children_asked = record { node = a.node; is = parts_here a.node a.here; ending = a.below; levels = omega (arith, a.levels) }

  module _ (m due : ℕ) where
    -- what is due behind its own chunks
    abbrev own : Option ℕ
    own = chunks_due (location_of v) v.count m (held v.bytes.now p.chunks) due

    -- and behind all below it
    behind_own : (o : Option ℕ) → o ≡ own → (x : Node) → NodeHere v.bytes.now left at x → then_due o (λ k. cond (is_nil x.lists.suffixes) (Some k) (forest_due (location_of v) v.count (m + 1) x.children k)) ≡ node_due (location_of v) v.count m x due
    unfolding node_due
    behind_own o e x h =
        ap (λ (q : Option ℕ). then_due q (λ k. cond (is_nil x.lists.suffixes) (Some k) (forest_due (location_of v) v.count (m + 1) x.children k)))
        (e ∙ ap (λ (ls : List Location). chunks_due (location_of v) v.count m ls due) (parts_here x h).chunks)

    pub node_struck : None ≡ own → (r : Option ℕ) → r ≡ None → NodeSays v at m left due r
    node_struck e r z = record { says = λ x h. z ∙ behind_own None e x h }

    module _ (k : ℕ) (e : Some k ≡ own) where
      suffix_length : (x : Node) → NodeHere v.bytes.now left at x → p.suffixes.count ≡ length x.lists.suffixes
      suffix_length x h = sym (length_locations p.suffixes.count v.bytes.now p.suffixes.at) ∙ ap length (parts_here x h).suffixes

      nil_if : (ls : List Location) → length ls ≡ 0 → is_nil ls ≡ true
      nil_if [] y = refl
      nil_if (l ∷ ls) y = absurd (omega arith)

      some_if : (ls : List Location) → (length ls ≡ 0 → ⊥) → is_nil ls ≡ false
      some_if [] y = absurd (y refl)
      some_if (l ∷ ls) y = refl

      -- no suffix: nothing below is looked at
      pub node_bare : p.suffixes.count ≡ 0 → NodeSays v at m left due (Some k)
      node_bare y = record {
        says = λ x h. ap (λ (q : Bool). cond q (Some k) (forest_due (location_of v) v.count (m + 1) x.children k)) (sym (nil_if x.lists.suffixes (sym (suffix_length x h) ∙ y)))
            ∙ behind_own (Some k) e x h;
      }

      pub node_below : (p.suffixes.count ≡ 0 → ⊥) → (r : Option ℕ) → ChildrenSays v p (m + 1) left k r → NodeSays v at m left due r
      node_below y r c = record {
        says = λ x h. c.says x (parts_here x h)
            ∙ ap (λ (q : Bool). cond q (Some k) (forest_due (location_of v) v.count (m + 1) x.children k)) (sym (some_if x.lists.suffixes (λ w. y (suffix_length x h ∙ w))))
            ∙ behind_own (Some k) e x h;
      }

-- ── its children ──

module _ (v : Line) (p : Parts) (m left due : ℕ) where
  pub no_levels : left ≡ 0 → ChildrenSays v p m left due (Some due)
  unfolding forest_due
  no_levels z = record { says = λ x h. ap (λ (f : Forest). forest_due (location_of v) v.count m f due) (sym (h.table.ends z)) }

  -- k are due behind the entries before number j, which lead to the first siblings; those from j on lead to the rest
  pub record Passed (j k : ℕ) (x : Node) : Type 0 where
    pub rest : Forest
    pub ahead : Ahead v.bytes.now left p.table.at p.table.count j rest
    pub ending : AllEnding m x.children → AllEnding m rest
    pub says : forest_due (location_of v) v.count m rest k ≡ forest_due (location_of v) v.count m x.children due

  pub record Passing (j k : ℕ) : Type 0 where
    pub within : j ≤ p.table.count
    pub each : (x : Node) → PartsOf v.bytes.now left p x → Passed j k x

  module _ (j k : ℕ) (i : Passing j k) where
    pub passing_done : p.table.count ≤ j → ChildrenSays v p m left due (Some k)
    unfolding forest_due
    passing_done l = record {
      says = λ x h.
          let y : Passed j k x = i.each x h in
          ap (λ (f : Forest). forest_due (location_of v) v.count m f k) (sym (slots_end v.bytes.now left p.table.at p.table.count j y.rest l y.ahead)) ∙ y.says;
    }

    module _ (l : j < p.table.count) where
      pub passing_skip : none ≡ slot_in v.bytes.now p.table.at p.table.count j → Passing (j + 1) k
      passing_skip q = record {
        within = omega arith;
        each = λ x h.
            let y : Passed j k x = i.each x h in
            record { rest = y.rest; ahead = slot_empty v.bytes.now left p.table.at p.table.count j y.rest l q y.ahead; ending = y.ending; says = y.says };
      }

      module _ (e : Entry) (q : some e ≡ slot_in v.bytes.now p.table.at p.table.count j) where
        met : (x : Node) (h : PartsOf v.bytes.now left p x) → Next v.bytes.now left p.table.at p.table.count j e (i.each x h).rest
        met x h = let y : Passed j k x = i.each x h in slot_taken v.bytes.now left p.table.at p.table.count j y.rest e l q y.ahead

        -- those that are met end where they may
        met_ending : (x : Node) (h : PartsOf v.bytes.now left p x) → AllEnding m x.children → AllEnding m (more e.byte (met x h).lists (met x h).below (met x h).later)
        met_ending x h w = subst (AllEnding m) (met x h).is ((i.each x h).ending w)

        pub node_asked : ChildrenAsked v.bytes.now p m left → (left ≡ 0 → ⊥) → NodeAsked v.bytes.now e.node m (left - 1)
        node_asked c z =
            let y = met c.node c.is in
            let w = met_ending c.node c.is c.ending in
            record { node = record { lists = y.lists; children = y.below }; here = y.here; ending = w.0; below = w.1; levels = omega (arith, c.levels) }

        -- this one, and those behind it
        one_more : (r : Option ℕ) → NodeSays v e.node m (left - 1) k r → (x : Node) (h : PartsOf v.bytes.now left p x) → then_due r (λ d. forest_due (location_of v) v.count m (met x h).later d) ≡ forest_due (location_of v) v.count m x.children due
        unfolding forest_due node_due
        one_more r c x h =
            let y = met x h in
            ap (λ (o : Option ℕ). then_due o (λ d. forest_due (location_of v) v.count m y.later d)) (c.says (record { lists = y.lists; children = y.below }) y.here)
            ∙ ap (λ (f : Forest). forest_due (location_of v) v.count m f k) (sym y.is)
            ∙ (i.each x h).says

        pub passing_struck : NodeSays v e.node m (left - 1) k None → (r : Option ℕ) → r ≡ None → ChildrenSays v p m left due r
        passing_struck c r z = record { says = λ x h. z ∙ one_more None c x h }

        pub passing_on : (d : ℕ) → NodeSays v e.node m (left - 1) k (Some d) → Passing (j + 1) d
        passing_on d c = record {
          within = omega arith;
          each = λ x h. record { rest = (met x h).later; ahead = (met x h).ahead; ending = λ w. (met_ending x h w).2; says = one_more (Some d) c x h };
        }
