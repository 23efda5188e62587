-- One child of a node, and the children of a node one entry after another. Assumes nothing.
use Prim.Native.Nat.{ℕ, suc, ◌+◌, ◌*◌, ◌-◌, ◌≤◌, ◌<◌}
use native.Mathlib.Omega.{arith}
use native.Mathlib.Numerals.{add-one}
use mathlib.Core.Path.{◌≡◌, refl, sym, ap, subst, ◌∙◌}
use mathlib.Core.Bool.{Bool, true, false, ◌&&◌}
use mathlib.Core.List.{List, [], ◌∷◌}
use lib.ListN.{length}
use borrow.Rule.Slice.PartMut.{mid_of}
use mathlib.Core.Option.{none, some}
use Rattle.definitions.specs.Location.{Location}
use Rattle.trie.specs.Trie.{Forest, Node}
use Rattle.trie.specs.Test.{is_union, node_right, next_fronts, front_lists, within, fronts_within, forest_right}
use Rattle.location_lists.specs.Lists.{held, lists_in}
use Rattle.location_lists.specs.declared.Lists.{Lists as Walked}
use Rattle.image_format.specs.Held.{Entry}
use Rattle.image_walk.specs.Parts.{parts_at}
use Rattle.image_walk.specs.Tables.{slot_in}
use Rattle.image_walk.specs.Here.{NodeHere}
use Rattle.node_rule.specs.Parts.{Ahead, TableOf, PartsOf, HasParts}
use Rattle.fronts.specs.Fronts.{FrontsFrom, FrontsHere, HasFronts, KeptBelow}
use Rattle.single_runs.specs.Says.{child_right, children_right}
use Rattle.forest_rule.specs.Says.{ChildAsked, ChildSays, ChildrenAsked, ChildrenSays}
use Rattle.forest_rule.specs.declared.Siblings.{Siblings}
use Rattle.fronts.specs.declared.Front.{Front}
use Rattle.fronts.specs.declared.Place.{Place}
use Rattle.fronts.specs.FrontRule.{SaysFronts, NextFronts}
use Rattle.node_rule.specs.OneNode.{SaysNode}
use Rattle.node_rule.proofs.Tables.{Next, slot_taken, slot_empty, slots_end}
use Rattle.node_rule.proofs.Parts.{parts_of}
use Rattle.node_rule.proofs.Owed.{and_first, and_last, and_not, and_so}
use Rattle.fronts.proofs.Fronts.{fronts_part, fronts_same, kept_none, kept_then}
use Rattle.image_walk.specs.declared.Node.{Node as Parts}

-- ── one child ──

module _ (s : List ℕ) (u : Place) (old : List Front) (count left : ℕ) (c : Parts) (g : c ≡ parts_at s u.at) where
  -- its table, below it
  abbrev pub under : Siblings
  under = record { table = c.table; depth = u.depth + 1; left = left }

  parts_here : (n : Node) → NodeHere s left u.at n → PartsOf s left c n
  parts_here n h = rw g (parts_of s left u.at n h)

  pub child_parts : ChildAsked s u old count left → HasParts s c
  child_parts a = record { depth = left; node = a.node; is = parts_here a.node a.here }

  module _ (mid : List Front) (met : ℕ) (lists : Walked) (k : NextFronts s u.byte u.depth old count mid met lists) (q : Bool) (e : q ≡ is_union 1 (held s c.prefixes) (lists_in s lists)) where
    union_says : (n : Node) (fs : List Node) → NodeHere s left u.at n → FrontsHere s left old (u.depth * 256) count fs → q ≡ is_union 1 n.lists.prefixes (front_lists (next_fronts u.byte fs))
    union_says n fs h w =
        let p = parts_here n h in
        e ∙ ap (λ (x : List Location). is_union 1 x (lists_in s lists)) p.prefixes ∙ ap (is_union 1 n.lists.prefixes) (k.lists_are left fs w)

    pub child_not_union : q ≡ false → ChildSays s u old count left mid false
    unfolding child_right
    child_not_union z = record {
      kept = k.kept;
      says = λ n fs h w. and_not (is_union 1 n.lists.prefixes (front_lists (next_fronts u.byte fs)))
          (node_right (u.depth + 1) n.lists n.children && (fronts_within (next_fronts u.byte fs) n.children && forest_right (next_fronts u.byte fs) (suc (u.depth + 1)) n.children))
          (sym z ∙ union_says n fs h w);
    }

    module _ (z : q ≡ true) (last : List Front) (r : Bool) (x : ChildrenSays s under mid met last r) where
      kept_below : KeptBelow ((u.depth + 1) * 256) old last
      kept_below = kept_then ((u.depth + 1) * 256) ((u.depth + 1 + 1) * 256) old mid last (omega arith) k.kept x.kept

      children_say : (n : Node) (fs : List Node) → NodeHere s left u.at n → FrontsHere s left old (u.depth * 256) count fs → r ≡ children_right (u.depth + 1) (next_fronts u.byte fs) n.children
      children_say n fs h w = x.says n.children (next_fronts u.byte fs) (parts_here n h).table (k.are left fs w)

      pub child_not_children : r ≡ false → ChildSays s u old count left last false
      unfolding child_right children_right
      child_not_children y = record {
        kept = kept_below;
        says = λ n fs h w. and_so (is_union 1 n.lists.prefixes (front_lists (next_fronts u.byte fs)))
            (node_right (u.depth + 1) n.lists n.children && (fronts_within (next_fronts u.byte fs) n.children && forest_right (next_fronts u.byte fs) (suc (u.depth + 1)) n.children)) false
            (sym z ∙ union_says n fs h w)
            (and_last (node_right (u.depth + 1) n.lists n.children) (fronts_within (next_fronts u.byte fs) n.children && forest_right (next_fronts u.byte fs) (suc (u.depth + 1)) n.children)
            (sym y ∙ children_say n fs h w));
      }

      pub child_by_node : r ≡ true → (v : Bool) → SaysNode s c (u.depth + 1) v → ChildSays s u old count left last v
      unfolding child_right children_right
      child_by_node y v f = record {
        kept = kept_below;
        says = λ n fs h w. and_so (is_union 1 n.lists.prefixes (front_lists (next_fronts u.byte fs)))
            (node_right (u.depth + 1) n.lists n.children && (fronts_within (next_fronts u.byte fs) n.children && forest_right (next_fronts u.byte fs) (suc (u.depth + 1)) n.children)) v
            (sym z ∙ union_says n fs h w)
            (and_first (node_right (u.depth + 1) n.lists n.children) (fronts_within (next_fronts u.byte fs) n.children && forest_right (next_fronts u.byte fs) (suc (u.depth + 1)) n.children) v
            (f left n (parts_here n h)) (sym y ∙ children_say n fs h w));
      }

  -- what the children ask
  pub children_asked : ChildAsked s u old count left → (mid : List Front) (met : ℕ) (lists : Walked) → NextFronts s u.byte u.depth old count mid met lists → ChildrenAsked s under mid met
  children_asked a mid met lists k =
      record { forest = a.node.children; is = (parts_here a.node a.here).table; nodes = next_fronts u.byte a.nodes; fronts_here = k.are left a.nodes a.fronts_here; levels = omega (arith, a.levels) }

-- ── no level left ──

-- fronts with no level below them have no children
none_within : (s : List ℕ) (fronts : List Front) (from : ℕ) (fs : List Node) (g : Forest) → FrontsFrom s 0 fronts from fs → true ≡ fronts_within fs g
none_within s fronts from [] g h = refl
none_within s fronts from (f ∷ fs) g h =
    let e = h.0.table.ends refl in
    and_so (within f.children g) (fronts_within fs g) true (ap (λ (x : Forest). within x g) (sym e)) (none_within s fronts (from + 1) fs g h.1)

-- ── the children ──

module _ (s : List ℕ) (b : Siblings) (old : List Front) (count : ℕ) where
  -- the child that an entry leads to
  abbrev pub place : Entry → Place
  place e = record { byte = e.byte; at = e.node; depth = b.depth }

  pub children_none : b.left ≡ 0 → ChildrenSays s b old count old true
  unfolding children_right
  children_none z = record { kept = kept_none ((b.depth + 1) * 256) old; says = says }
    where
      says : (g : Forest) (fs : List Node) → TableOf s b.left b.table.at b.table.count g → FrontsHere s (b.left - 1) old (b.depth * 256) count fs → true ≡ (fronts_within fs g && forest_right fs (suc b.depth) g)
      says g fs h w =
          let y : b.left - 1 ≡ 0 = omega arith in
          let e = h.ends z in
          and_so (fronts_within fs g) (forest_right fs (suc b.depth) g) true
          (none_within s old (b.depth * 256) fs g (subst (λ (x : ℕ). FrontsFrom s x old (b.depth * 256) fs) y w.each)) (rw e refl)

  -- siblings ahead, those passed being right
  pub record RightAhead (j : ℕ) (g : Forest) (fs : List Node) : Type 0 where
    pub rest : Forest
    pub ahead : Ahead s b.left b.table.at b.table.count j rest
    pub says : forest_right fs (suc b.depth) rest ≡ forest_right fs (suc b.depth) g

  pub record Turning (j : ℕ) (fronts : List Front) : Type 0 where
    pub kept : KeptBelow ((b.depth + 1) * 256) old fronts
    pub each : (g : Forest) (fs : List Node) → TableOf s b.left b.table.at b.table.count g → FrontsHere s (b.left - 1) old (b.depth * 256) count fs → RightAhead j g fs

  -- the fronts are on the stack still
  fronts_still : (j : ℕ) (fronts : List Front) → Turning j fronts → (fs : List Node) → FrontsHere s (b.left - 1) old (b.depth * 256) count fs → FrontsHere s (b.left - 1) fronts (b.depth * 256) count fs
  fronts_still j fronts i fs w =
      let m = w.many in
      let u = w.few in
      record { many = m; few = u; each = fronts_same s (b.left - 1) old fronts (b.depth * 256) fs (λ k h. i.kept.first k (omega arith)) w.each }

  pub has_fronts : (j : ℕ) (fronts : List Front) → Turning j fronts → ChildrenAsked s b old count → HasFronts s fronts (b.depth * 256) count
  has_fronts j fronts i a = record { depth = b.left - 1; nodes = a.nodes; is = fronts_still j fronts i a.nodes a.fronts_here }

  module _ (j : ℕ) (fronts : List Front) (i : Turning j fronts) (l : j < b.table.count) where
    pub turning_skip : none ≡ slot_in s b.table.at b.table.count j → Turning (j + 1) fronts
    turning_skip q = record { kept = i.kept; each = step }
      where
        step : (g : Forest) (fs : List Node) → TableOf s b.left b.table.at b.table.count g → FrontsHere s (b.left - 1) old (b.depth * 256) count fs → RightAhead (j + 1) g fs
        step g fs h w =
            let x = i.each g fs h w in
            record { rest = x.rest; ahead = slot_empty s b.left b.table.at b.table.count j x.rest l q x.ahead; says = x.says }

    module _ (e : Entry) (q : some e ≡ slot_in s b.table.at b.table.count j) where
      met : (g : Forest) (fs : List Node) (h : TableOf s b.left b.table.at b.table.count g) (w : FrontsHere s (b.left - 1) old (b.depth * 256) count fs) → Next s b.left b.table.at b.table.count j e (i.each g fs h w).rest
      met g fs h w = let x = i.each g fs h w in slot_taken s b.left b.table.at b.table.count j x.rest e l q x.ahead

      -- what the child asks
      pub child_asked : ChildrenAsked s b old count → (b.left ≡ 0 → ⊥) → ChildAsked s (place e) fronts count (b.left - 1)
      child_asked a z =
          let x = met a.forest a.nodes a.is a.fronts_here in
          record {
            node = record { lists = x.lists; children = x.below };
            here = x.here;
            nodes = a.nodes;
            fronts_here = fronts_still j fronts i a.nodes a.fronts_here;
            levels = omega (arith, a.levels);
          }

      module _ (last : List Front) (r : Bool) (o : ChildSays s (place e) fronts count (b.left - 1) last r) where
        -- this sibling and those ahead
        one_more : (g : Forest) (fs : List Node) (h : TableOf s b.left b.table.at b.table.count g) (w : FrontsHere s (b.left - 1) old (b.depth * 256) count fs) → (r && forest_right fs (suc b.depth) (met g fs h w).later) ≡ forest_right fs (suc b.depth) g
        unfolding child_right
        one_more g fs h w =
            let x = met g fs h w in
            let m : Node = record { lists = x.lists; children = x.below } in
            let y : r ≡ child_right e.byte (suc b.depth) fs m = o.says m fs x.here (fronts_still j fronts i fs w) ∙ ap (λ (z : ℕ). child_right e.byte z fs m) (add-one b.depth) in
            ap (λ (z : Bool). z && forest_right fs (suc b.depth) x.later) y ∙ ap (forest_right fs (suc b.depth)) (sym x.is) ∙ (i.each g fs h w).says

        kept_on : KeptBelow ((b.depth + 1) * 256) old last
        kept_on = kept_then ((b.depth + 1) * 256) ((b.depth + 1) * 256) old fronts last (omega arith) i.kept o.kept

        pub turning_lost : r ≡ false → ChildrenSays s b old count last false
        unfolding children_right
        turning_lost z = record {
          kept = kept_on;
          says = λ g fs h x.
              and_last (fronts_within fs g) (forest_right fs (suc b.depth) g)
              (ap (λ (y : Bool). y && forest_right fs (suc b.depth) (met g fs h x).later) (sym z) ∙ one_more g fs h x);
        }

        pub turning_on : r ≡ true → Turning (j + 1) last
        turning_on z = record { kept = kept_on; each = step }
          where
            step : (g : Forest) (fs : List Node) → TableOf s b.left b.table.at b.table.count g → FrontsHere s (b.left - 1) old (b.depth * 256) count fs → RightAhead (j + 1) g fs
            step g fs h x =
                let y = met g fs h x in
                record { rest = y.later; ahead = y.ahead; says = ap (λ (v : Bool). v && forest_right fs (suc b.depth) y.later) (sym z) ∙ one_more g fs h x }

  pub turning_done : (j : ℕ) (fronts : List Front) → Turning j fronts → b.table.count ≤ j → (n : ℕ) → n ≡ count → b.depth * 256 + count ≤ length fronts
      → (w : Bool) → SaysFronts s b.table.at b.table.count (mid_of (b.depth * 256) n fronts) w → ChildrenSays s b old count fronts w
  unfolding children_right
  turning_done j fronts i l n z r w f = record {
    kept = i.kept;
    says = λ g fs h x. and_first (fronts_within fs g) (forest_right fs (suc b.depth) g) w (f b.left (b.left - 1) g fs h (fronts_part s fronts (b.depth * 256) count n z r (b.left - 1) fs (fronts_still j fronts i fs x))) (end g fs h x);
  }
    where
      end : (g : Forest) (fs : List Node) → TableOf s b.left b.table.at b.table.count g → FrontsHere s (b.left - 1) old (b.depth * 256) count fs → true ≡ forest_right fs (suc b.depth) g
      end g fs h x =
          let y = i.each g fs h x in
          let z = slots_end s b.left b.table.at b.table.count j y.rest l y.ahead in
          ap (forest_right fs (suc b.depth)) (sym z) ∙ y.says
