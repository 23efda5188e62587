-- The rule for all nodes below one, as a test. Assumes nothing.
use Rattle.std.specs.Prelude.{ℕ, suc, Bool, ◌&&◌, List}
use Rattle.trie.specs.Trie.{Forest, Node}
use Rattle.trie.specs.Test.{is_union, node_right, next_fronts, front_lists, fronts_within, forest_right}

-- a child by a byte of a node with the fronts fs
unfoldable pub child_right : ℕ → ℕ → List Node → Node → Bool
child_right b depth fs n =
    is_union 1 n.lists.prefixes (front_lists (next_fronts b fs)) &&
    (node_right depth n.lists n.children && (fronts_within (next_fronts b fs) n.children && forest_right (next_fronts b fs) (suc depth) n.children))

-- siblings at depth + 1 whose parent has the fronts fs
unfoldable pub children_right : ℕ → List Node → Forest → Bool
children_right depth fs g = fronts_within fs g && forest_right fs (suc depth) g
