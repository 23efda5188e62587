-- What the functions ask for and say, of whatever node stands there. Assumes nothing.
use Rattle.std.specs.Prelude.{ℕ, ◌+◌, ◌≤◌, ◌≡◌, List, Option}
use Rattle.lined_locations.specs.declared.Line.{Line}
use Rattle.lined_locations.specs.Line.{location_of}
use Rattle.trie.specs.Trie.{Node}
use Rattle.image_walk.specs.declared.Node.{Node as Parts}
use Rattle.image_walk.specs.Here.{NodeHere}
use Rattle.node_rule.specs.Parts.{PartsOf}
use Rattle.image_conflicts.specs.Due.{Ending, AllEnding, forest_due, node_due}

-- a node at depth m stands at index `at`, with at most `left` levels below it
pub record NodeAsked (s : List ℕ) (at m left : ℕ) : Type 0 where
  pub node : Node
  pub here : NodeHere s left at node
  pub ending : Ending m node.lists.chunks
  pub below : AllEnding (m + 1) node.children
  pub levels : m + left ≤ 16

pub record NodeSays (v : Line) (at m left due : ℕ) (r : Option ℕ) : Type 0 where
  pub says : (x : Node) → NodeHere v.bytes.now left at x → r ≡ node_due (location_of v) v.count m x due

-- a node has these parts, at most `left` levels below it, and its children at depth m
pub record ChildrenAsked (s : List ℕ) (p : Parts) (m left : ℕ) : Type 0 where
  pub node : Node
  pub is : PartsOf s left p node
  pub ending : AllEnding m node.children
  pub levels : m + left ≤ 17

pub record ChildrenSays (v : Line) (p : Parts) (m left due : ℕ) (r : Option ℕ) : Type 0 where
  pub says : (x : Node) → PartsOf v.bytes.now left p x → r ≡ forest_due (location_of v) v.count m x.children due
