-- The tests on one node, each where those before it held. Assumes nothing.
use Prim.Native.Nat.{ℕ}
use mathlib.Core.Path.{◌≡◌, sym, ap, ◌∙◌}
use mathlib.Core.Bool.{Bool, ◌&&◌}
use mathlib.Core.List.{List}
use Rattle.definitions.specs.Location.{Location}
use Rattle.trie.specs.Trie.{Lists, Node}
use Rattle.trie.specs.Test.{lists_right, is_owed, child_lists, is_union, node_right}
use Rattle.location_lists.specs.declared.Lists.{Lists as Walked}
use Rattle.location_lists.specs.Lists.{held, lists_in}
use Rattle.node_rule.specs.Parts.{PartsOf, lists_of}
use Rattle.node_rule.specs.OneNode.{ChildLists, SaysSuffixes, is_owed as owed}
use Rattle.node_rule.proofs.Owed.{owed_is}
use Rattle.image_walk.specs.declared.Node.{Node as Parts}

module _ (s : List ℕ) (p : Parts) (depth : ℕ) where
  -- ── against the children ──

  pub suffixes_say : (lists : Walked) (r : Bool) → ChildLists s p.table.at p.table.count lists → r ≡ is_union 0 (held s p.suffixes) (lists_in s lists) → SaysSuffixes s p r
  suffixes_say lists r c e d n h =
      e ∙ ap (λ (x : List Location). is_union 0 x (lists_in s lists)) h.suffixes
      ∙ ap (is_union 0 n.lists.suffixes) (c.are d n.children h.table)

  -- ── the node ──

  -- the first two tests by the parts
  pub node_is : (d : ℕ) (n : Node) → PartsOf s d p n → node_right depth n.lists n.children ≡ (owed p depth && (lists_right depth (lists_of s p) && is_union 0 n.lists.suffixes (child_lists n.children)))
  node_is d n h =
      let lists : lists_of s p ≡ n.lists = λ i. record { prefixes = h.prefixes i; chunks = h.chunks i; suffixes = h.suffixes i } in
      sym
      (ap (λ (o : Bool). o && (lists_right depth (lists_of s p) && is_union 0 n.lists.suffixes (child_lists n.children))) (owed_is s d p n h depth)
      ∙ ap (λ (x : Lists). is_owed depth n.lists n.children && (lists_right depth x && is_union 0 n.lists.suffixes (child_lists n.children))) lists)
