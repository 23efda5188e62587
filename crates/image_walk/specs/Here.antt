-- A node of a trie that stands at an index of a list of bytes. Assumes nothing.
use Rattle.std.specs.Prelude.{ℕ, ◌+◌, ◌^◌, ◌≤◌, ◌<◌, ◌≡◌, List, [], ◌∷◌, length}
use Rattle.std.proofs.Math.Option.{Option, none, some}
use Rattle.words.specs.Holding.{Holds}
use Rattle.trie.specs.Trie.{Forest, leaf, more, Node, root}
use Rattle.trie.specs.Rule.{Apart}
use Rattle.image_format.specs.Image.{children_of, node_bytes, node_size}
use Rattle.image_format.specs.Held.{Entry, trie_in}
use Rattle.image_format.specs.Savable.{ListsFit, AllFit, InBytes, Short, Kept, AllKept}

-- the node n stands at index `at` of s, with at most d levels below it
pub record NodeHere (s : List ℕ) (d at : ℕ) (n : Node) : Type 0 where
  pub holds : Holds s at (node_bytes at n.lists (children_of n.children))
  pub within : at + node_size n.lists (children_of n.children) ≤ length s
  pub small : length s < 2 ^ 64
  -- what can be saved
  pub lists : ListsFit n.lists
  pub all_lists : AllFit n.children
  pub bytes : InBytes n.children
  pub apart : Apart n.children
  pub short : Short d n.children
  pub kept : Kept n.children
  pub all_kept : AllKept n.children

-- some node stands there
pub record Laid (s : List ℕ) (at : ℕ) : Type 0 where
  pub depth : ℕ
  pub node : Node
  pub here : NodeHere s depth at node

-- the entries of a table lead to the nodes of these siblings, in their order
abbrev pub Matches : List ℕ → ℕ → List Entry → Forest → Type 0
Matches s d [] leaf = Unit {0}
Matches s d [] (more b h below later) = ⊥
Matches s d (e ∷ es) leaf = ⊥
Matches s d (e ∷ es) (more b h below later) = (e.byte ≡ b) × NodeHere s d e.node (record { lists = h; children = below }) × Matches s d es later

-- what was found in place is what was found in the trie: nothing in both, or a node that stands there
abbrev pub Found : List ℕ → ℕ → Option ℕ → Option Node → Type 0
Found s d none none = Unit {0}
Found s d none (some n) = ⊥
Found s d (some at) none = ⊥
Found s d (some at) (some n) = NodeHere s d at n

-- what was found in the trie is a node, and it stands at p
pub record FoundAt (s : List ℕ) (d p : ℕ) (o : Option Node) : Type 0 where
  pub node : Node
  pub there : o ≡ some node
  pub here : NodeHere s d p node

-- the trie of an image has a root, which stands at its start
pub record RootHere (s : List ℕ) : Type 0 where
  pub node : Node
  pub trie : trie_in s ≡ root node
  pub here : NodeHere s 16 0 node
