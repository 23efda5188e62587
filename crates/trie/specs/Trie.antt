-- The trie of an index: nodes with three lists of locations, and children in the order of their arrival. Assumes nothing.
use Rattle.std.specs.Prelude.{ℕ, suc, ◌+◌, ◌≡◌, cond, List, [], ◌∷◌, ◌++◌, length, eqb}
use Rattle.std.proofs.Math.Option.{Option, none, some}
use Rattle.definitions.specs.Location.{Location}
use Rattle.definitions.specs.Blocks.{Piece}

-- what a node holds besides its children
pub record Lists : Type 0 where
  pub prefixes : List Location
  pub chunks : List Location
  pub suffixes : List Location

-- siblings by arrival: a byte, what its node holds, its children, the later siblings
pub data Forest : Type 0 where
  leaf : Forest
  more : ℕ → Lists → Forest → Forest → Forest

pub record Node : Type 0 where
  pub lists : Lists
  pub children : Forest

-- an index with no root, or with one
pub data Trie : Type 0 where
  empty : Trie
  root : Node → Trie

-- ── the walk ──

-- the child for a byte, or none
abbrev pub child : Forest → ℕ → Option Node
child leaf b = none
child (more c h below later) b = cond (eqb c b) (some (record { lists = h; children = below })) (child later b)

abbrev pub child_of : Option Node → ℕ → Option Node
child_of none b = none
child_of (some n) b = child n.children b

-- goes to the child for the next byte, or else ends with none
abbrev pub walk : List ℕ → Option Node → Option Node
walk [] o = o
walk (b ∷ path) o = walk path (child_of o b)

-- the node at the end of a path
abbrev pub node_at : Node → List ℕ → Option Node
node_at n path = walk path (some n)

-- a node stands at the end of the path
pub record IsNode (n : Node) (path : List ℕ) : Type 0 where
  pub node : Node
  pub there : node_at n path ≡ some node

abbrev pub no_lists : Lists
no_lists = record { prefixes = []; chunks = []; suffixes = [] }

abbrev pub lists_or_none : Option Node → Lists
lists_or_none none = no_lists
lists_or_none (some n) = n.lists

-- the lists at the end of a path, empty where no node is
abbrev pub lists_at : Node → List ℕ → Lists
lists_at n path = lists_or_none (node_at n path)

-- ── collecting: `prefixes` and `chunks` of a node and all under it ──

abbrev pub collect_forest : Forest → List Location
collect_forest leaf = []
collect_forest (more b h below later) = h.prefixes ++ h.chunks ++ collect_forest below ++ collect_forest later

abbrev pub collect : Node → List Location
collect n = n.lists.prefixes ++ n.lists.chunks ++ collect_forest n.children

-- ── counts ──

abbrev pub entries_of : Lists → ℕ
entries_of h = length h.prefixes + length h.chunks + length h.suffixes

abbrev pub forest_nodes : Forest → ℕ
forest_nodes leaf = 0
forest_nodes (more b h below later) = suc (forest_nodes below + forest_nodes later)

abbrev pub forest_entries : Forest → ℕ
forest_entries leaf = 0
forest_entries (more b h below later) = entries_of h + forest_entries below + forest_entries later

-- the nodes of an index, the root as one always
abbrev pub nodes : Trie → ℕ
nodes empty = 1
nodes (root n) = suc (forest_nodes n.children)

abbrev pub entries : Trie → ℕ
entries empty = 0
entries (root n) = entries_of n.lists + forest_entries n.children

-- ── pieces: a `chunks` entry is a piece with its path as bytes ──

abbrev pub pieces_here : List ℕ → List Location → List Piece
pieces_here path [] = []
pieces_here path (l ∷ ls) = record { bytes = path; at = l } ∷ pieces_here path ls

abbrev pub forest_pieces : List ℕ → Forest → List Piece
forest_pieces path leaf = []
forest_pieces path (more b h below later) = pieces_here (path ++ (b ∷ [])) h.chunks ++ forest_pieces (path ++ (b ∷ [])) below ++ forest_pieces path later

abbrev pub trie_pieces : Trie → List Piece
trie_pieces empty = []
trie_pieces (root n) = pieces_here [] n.lists.chunks ++ forest_pieces [] n.children
