-- What the functions of the rule say of one node, whatever node stands there. Assumes nothing.
use Rattle.std.specs.Prelude.{ℕ, ◌≡◌, Bool, cond, ◌||◌, List, eqb, ltb}
use Rattle.trie.specs.Trie.{Forest, Node}
use Rattle.trie.specs.Test.{child_lists, is_union, node_right}
use Rattle.location_lists.specs.declared.List.{List as Listing}
use Rattle.location_lists.specs.declared.Lists.{Lists}
use Rattle.location_lists.specs.Lists.{AreLists, lists_in, with_list}
use Rattle.node_rule.specs.Parts.{TableOf, PartsOf}
use Rattle.image_walk.specs.declared.Node.{Node as Parts}

-- two lists more
abbrev pub with_two : Lists → Listing → Listing → Lists
with_two lists a b = with_list (with_list lists a) b

-- they are the chunks and suffixes of the siblings that a table leads to
pub record ChildLists (s : List ℕ) (table children : ℕ) (lists : Lists) : Type 0 where
  pub valid : AreLists s lists
  pub are : (d : ℕ) (f : Forest) → TableOf s d table children f → lists_in s lists ≡ child_lists f

-- by their counts, these parts owe nothing: the root has no prefix, and another node has a child, a prefix or a chunk
abbrev pub is_owed : Parts → ℕ → Bool
is_owed p depth = cond (eqb depth 0) (eqb p.prefixes.count 0) (ltb 0 p.table.count || (ltb 0 p.prefixes.count || ltb 0 p.chunks.count))

abbrev pub SaysSuffixes : List ℕ → Parts → Bool → Type 0
SaysSuffixes s p r = (d : ℕ) (n : Node) → PartsOf s d p n → r ≡ is_union 0 n.lists.suffixes (child_lists n.children)

abbrev pub SaysNode : List ℕ → Parts → ℕ → Bool → Type 0
SaysNode s p depth r = (d : ℕ) (n : Node) → PartsOf s d p n → r ≡ node_right depth n.lists n.children
