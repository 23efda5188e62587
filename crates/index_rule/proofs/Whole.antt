-- The rule from the root on, and the whole check of an image. Assumes nothing.
use Prim.Native.Nat.{ℕ}
use native.Mathlib.Omega.{arith}
use mathlib.Core.Path.{◌≡◌, sym, ap, ◌∙◌}
use mathlib.Core.Bool.{Bool, true, false, ◌&&◌, cond}
use mathlib.Core.List.{List}
use lib.ListN.{get_or}
use Rattle.definitions.specs.Conflicts.{free}
use Rattle.definitions.specs.Causes.{image_broken, conflict}
use Rattle.trie.specs.Trie.{trie_pieces}
use Rattle.trie.specs.Test.{node_right, fronts_within, forest_right, siblings, index_rule}
use Rattle.image_format.specs.Held.{trie_in}
use Rattle.image_format.specs.Reading.{Layout, right, refused, read_image}
use Rattle.image_walk.specs.Parts.{parts_at}
use Rattle.image_walk.specs.Here.{RootHere}
use Rattle.image_walk.proofs.Root.{trie_empty}
use Rattle.node_rule.specs.Parts.{PartsOf, HasParts, HasTable}
use Rattle.single_runs.specs.Says.{children_right}
use Rattle.forest_rule.specs.Says.{ChildrenAsked, ChildrenSays}
use Rattle.forest_rule.specs.declared.Siblings.{Siblings}
use Rattle.fronts.specs.FrontRule.{RootFronts}
use Rattle.fronts.specs.declared.Front.{Front}
use Rattle.node_rule.specs.OneNode.{SaysNode}
use Rattle.image_format.specs.Check.{and_if, check_image}
use Rattle.node_rule.proofs.Parts.{parts_of}
use Rattle.node_rule.proofs.Owed.{and_not, and_so}
use Rattle.image_walk.specs.declared.Node.{Node as Parts}

-- ── the first byte ──

-- 0 is that of an empty index, which meets the rule
pub rule_empty : (s : List ℕ) → get_or s 0 0 ≡ 0 → true ≡ index_rule (trie_in s)
rule_empty s z = ap index_rule (sym (trie_empty s z))

-- ── the root ──

module _ (s : List ℕ) (h : RootHere s) (c : Parts) (g : c ≡ parts_at s 0) where
  root_is : PartsOf s 16 c h.node
  root_is = rw g (parts_of s 16 0 h.node h.here)

  pub root_parts : HasParts s c
  root_parts = record { depth = 16; node = h.node; is = root_is }

  pub root_table : HasTable s c.table.at c.table.count
  root_table = record { depth = 16; forest = h.node.children; is = root_is.table }

  -- all nodes below it
  abbrev pub below_root : Siblings
  below_root = record { table = c.table; depth = 0; left = 16 }

  pub root_asked : (fronts : List Front) (count : ℕ) → RootFronts s c.table.at c.table.count fronts count → ChildrenAsked s below_root fronts count
  root_asked fronts count f =
      record { forest = h.node.children; is = root_is.table; nodes = siblings h.node.children; fronts_here = f.are 16 h.node.children root_is.table; levels = omega arith }

  module _ (v : Bool) (e : SaysNode s c 0 v) where
    pub rule_not_node : v ≡ false → false ≡ index_rule (trie_in s)
    rule_not_node z =
        let n = h.node in
        and_not (node_right 0 n.lists n.children) (fronts_within (siblings n.children) n.children && forest_right (siblings n.children) 1 n.children) (sym z ∙ e 16 n root_is)
        ∙ ap index_rule (sym h.trie)

    pub rule_by_children : v ≡ true → (fronts : List Front) (count : ℕ) → RootFronts s c.table.at c.table.count fronts count → (last : List Front) (r : Bool) → ChildrenSays s below_root fronts count last r →
        r ≡ index_rule (trie_in s)
    unfolding children_right
    rule_by_children z fronts count f last r x =
        let n = h.node in
        let w : r ≡ (fronts_within (siblings n.children) n.children && forest_right (siblings n.children) 1 n.children) =
        x.says n.children (siblings n.children) root_is.table (f.are 16 n.children root_is.table) in
        and_so (node_right 0 n.lists n.children) (fronts_within (siblings n.children) n.children && forest_right (siblings n.children) 1 n.children) r (sym z ∙ e 16 n root_is) w
        ∙ ap index_rule (sym h.trie)

-- ── the whole check ──

module _ (s : List ℕ) where
  pub check_refused : (n : ℕ) → refused n ≡ read_image s → refused n ≡ check_image s
  unfolding check_image
  check_refused n e = ap (λ (l : Layout). and_if (free (trie_pieces (trie_in s))) conflict (and_if (index_rule (trie_in s)) image_broken l)) e

  module _ (k e : ℕ) (q : right k e ≡ read_image s) (r : Bool) (f : r ≡ index_rule (trie_in s)) where
    pub check_fails : r ≡ false → refused 15 ≡ check_image s
    unfolding check_image
    check_fails z = sym (rw (sym q, sym f ∙ z))

    module _ (z : r ≡ true) (o : Bool) (g : o ≡ free (trie_pieces (trie_in s))) where
      check_by : cond o (right k e) (refused 18) ≡ check_image s
      unfolding check_image
      check_by = sym (rw (sym q, sym f ∙ z, sym g))

      pub check_conflict : o ≡ false → refused 18 ≡ check_image s
      check_conflict w = ap (λ (b : Bool). cond b (right k e) (refused 18)) (sym w) ∙ check_by

      pub check_clear : o ≡ true → right k e ≡ check_image s
      check_clear w = ap (λ (b : Bool). cond b (right k e) (refused 18)) (sym w) ∙ check_by
