-- Nodes and tables: what is asked, and what is written. Assumes nothing.
use Rattle.std.specs.Prelude.{ℕ, suc, ◌+◌, ◌-◌, ◌*◌, ◌≤◌, ◌<◌, ◌≡◌, length, get_or}
use mathlib.Core.List.{List, Memᴰ}
use Rattle.words.specs.Holding.{Holds}
use Rattle.trie.specs.Trie.{Node, entries_of, forest_nodes, forest_entries}
use Rattle.trie.specs.Build.{Rising}
use Rattle.tails.specs.Tails.{Tail}
use Rattle.tails.specs.Groups.{Group, kept_groups, group_node, bytes_of, Different}
use Rattle.kinds.specs.Kinds.{kind_of}
use Rattle.image_format.specs.Image.{Child, children_of, nodes_in, entries_in, table_bytes, table_size, node_bytes, node_size}
use Rattle.tails.specs.Runs.{Run}
use Rattle.tails.specs.Weights.{weights, group_weights}
use Rattle.tail_words.specs.Tail.{tails_in, Held}
use Rattle.tail_groups.specs.Found.{Grouped}
use Rattle.tail_groups.specs.declared.Grouping.{Grouping}
use Rattle.tail_groups.specs.Ranks.{Apart}
use Rattle.list_writer.specs.declared.End.{End}
use Rattle.single_writer.specs.Kids.{kids}
use Rattle.slot_writer.specs.Turns.{groups_in}

-- ── tables ──

-- the node of a group of a node at depth d with so many levels left
abbrev pub child_node : ℕ → ℕ → List Tail → Node
child_node left d = group_node (left - 1) (suc d)

-- the children of the groups of the tails number lo to hi - 1, as an image keeps them
abbrev pub children_in : List ℕ → ℕ → ℕ → ℕ → ℕ → ℕ → List Child
children_in s work lo hi d left = kids (child_node left d) (kept_groups (groups_in s work lo hi d))

pub record TableAsked (s : List ℕ) (work lo hi d n : ℕ) (e : End) (x : Grouping) (left : ℕ) : Type 0 where
  pub order : lo ≤ hi
  pub grouped : Grouped s work lo hi d x n
  pub held : Held s work lo hi
  pub memory : work + 56 * hi ≤ length s
  pub different : Different (groups_in s work lo hi d)
  pub rising : Rising (bytes_of (groups_in s work lo hi d))
  pub small : (g : Group) → Memᴰ g (groups_in s work lo hi d) → g.byte < 256
  pub runs : (g : Group) → Memᴰ g (groups_in s work lo hi d) → Run (suc d) g.tails
  pub apart : Apart (tails_in s work lo hi)
  pub depth : d + left ≡ 16
  pub from : 64 ≤ e.at
  pub counted_nodes : e.nodes ≤ e.at
  pub counted : e.entries ≤ e.at
  pub room : e.at + 39 + 64 * nodes_in (kids (child_node left d) (groups_in s work lo hi d)) + 24 * group_weights (suc d) (groups_in s work lo hi d) ≤ work

pub record TableWritten (s s' : List ℕ) (work lo hi d n : ℕ) (e : End) (left : ℕ) (r : End) : Type 0 where
  pub bytes : Holds s' e.at (table_bytes (kind_of n) (e.at - 64) (children_in s work lo hi d left))
  pub at : r.at ≡ e.at + table_size (kind_of n) (children_in s work lo hi d left)
  pub nodes : r.nodes ≡ e.nodes + nodes_in (children_in s work lo hi d left)
  pub entries : r.entries ≡ e.entries + entries_in (children_in s work lo hi d left)
  pub lean : r.at ≤ e.at + 8 + 64 * nodes_in (children_in s work lo hi d left) + 24 * group_weights (suc d) (groups_in s work lo hi d)
  pub counted_nodes : r.nodes ≤ r.at
  pub counted : r.entries ≤ r.at
  pub long : length s' ≡ length s
  pub before : (k : ℕ) → k < e.at → get_or s' k 0 ≡ get_or s k 0
  pub behind : (k : ℕ) → work ≤ k → get_or s' k 0 ≡ get_or s k 0

-- ── nodes ──

-- the node of the tails number lo to hi - 1, which share their first d bytes
abbrev pub node_of : List ℕ → ℕ → ℕ → ℕ → ℕ → ℕ → Node
node_of s work lo hi d left = group_node left d (tails_in s work lo hi)

-- a node stands behind the end e, and r is the end behind it; w is what its tails weigh, and the rest of the memory is as it was; offsets are from the image's start, byte 64
pub record Stands (s s' : List ℕ) (n : Node) (w work : ℕ) (e r : End) : Type 0 where
  pub bytes : Holds s' e.at (node_bytes (e.at - 64) n.lists (children_of n.children))
  pub at : r.at ≡ e.at + node_size n.lists (children_of n.children)
  pub nodes : r.nodes ≡ e.nodes + (1 + forest_nodes n.children)
  pub entries : r.entries ≡ e.entries + (entries_of n.lists + forest_entries n.children)
  pub lean : r.at + 31 ≤ e.at + 64 * (1 + forest_nodes n.children) + 24 * w
  pub counted_nodes : r.nodes ≤ r.at
  pub counted : r.entries ≤ r.at
  pub long : length s' ≡ length s
  pub before : (k : ℕ) → k < e.at → get_or s' k 0 ≡ get_or s k 0
  pub behind : (k : ℕ) → work ≤ k → get_or s' k 0 ≡ get_or s k 0

-- the tails number lo to hi - 1 share their first d bytes, and there is room for their node
pub record SpanAsked (s : List ℕ) (work lo hi d : ℕ) (e : End) (left : ℕ) : Type 0 where
  pub held : Held s work lo hi
  pub memory : work + 56 * hi ≤ length s
  pub run : Run d (tails_in s work lo hi)
  pub depth : d + left ≡ 16
  pub from : 64 ≤ e.at
  pub counted_nodes : e.nodes ≤ e.at
  pub counted : e.entries ≤ e.at
  -- 64 bytes for each node, 24 for each entry, repeats kept
  pub room : e.at + 64 * (1 + forest_nodes (node_of s work lo hi d left).children) + 24 * weights d (tails_in s work lo hi) ≤ work

-- s' is s with their node behind the end e
abbrev pub SpanWritten : List ℕ → List ℕ → ℕ → ℕ → ℕ → ℕ → End → ℕ → End → Type 0
SpanWritten s s' work lo hi d e left r = Stands s s' (node_of s work lo hi d left) (weights d (tails_in s work lo hi)) work e r

pub record NodeAsked (s : List ℕ) (work lo hi d : ℕ) (e : End) (left : ℕ) : Type 0 where
  pub span : SpanAsked s work lo hi d e left
  pub order : lo ≤ hi
  pub apart : Apart (tails_in s work lo hi)
