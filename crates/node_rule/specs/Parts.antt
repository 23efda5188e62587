-- A node of a trie by the parts that stand in an image: its lists, and its table whose entries lead to its children. Assumes nothing.
use Rattle.std.specs.Prelude.{ℕ, ◌-◌, ◌≤◌, ◌≡◌, List}
use Rattle.trie.specs.Trie.{Lists, Forest, leaf, Node}
use Rattle.location_lists.specs.Lists.{held, Within}
use Rattle.image_walk.specs.Tables.{slots_from}
use Rattle.image_walk.specs.Bounds.{TableHere}
use Rattle.image_walk.specs.Here.{Matches}
use Rattle.image_walk.specs.declared.Node.{Node as Parts}

-- the entries of a table from number j on lead to these siblings, each with at most d - 1 levels below it
abbrev pub Ahead : List ℕ → ℕ → ℕ → ℕ → ℕ → Forest → Type 0
Ahead s d table children j f = Matches s (d - 1) (slots_from s table children (children - j) j) f

-- a table leads to these siblings, which are at most d levels
pub record TableOf (s : List ℕ) (d table children : ℕ) (f : Forest) : Type 0 where
  pub within : TableHere s table children
  pub most : children ≤ 256
  pub leads : Ahead s d table children 0 f
  pub ends : d ≡ 0 → f ≡ leaf

-- the lists of these parts
abbrev pub lists_of : List ℕ → Parts → Lists
lists_of s p = record { prefixes = held s p.prefixes; chunks = held s p.chunks; suffixes = held s p.suffixes }

-- these parts are those of the node n, with at most d levels below it
pub record PartsOf (s : List ℕ) (d : ℕ) (p : Parts) (n : Node) : Type 0 where
  pub prefixes : held s p.prefixes ≡ n.lists.prefixes
  pub chunks : held s p.chunks ≡ n.lists.chunks
  pub suffixes : held s p.suffixes ≡ n.lists.suffixes
  pub prefixes_in : Within s p.prefixes
  pub chunks_in : Within s p.chunks
  pub suffixes_in : Within s p.suffixes
  pub table : TableOf s d p.table.at p.table.count n.children
  -- a table with room for children has some
  pub childless : n.children ≡ leaf → p.table.count ≡ 0

-- some siblings, some node
pub record HasTable (s : List ℕ) (table children : ℕ) : Type 0 where
  pub depth : ℕ
  pub forest : Forest
  pub is : TableOf s depth table children forest

pub record HasParts (s : List ℕ) (p : Parts) : Type 0 where
  pub depth : ℕ
  pub node : Node
  pub is : PartsOf s depth p node
