-- Document 01, "Index rule", of a finished index, in the document's own words. Assumes nothing.
use Rattle.std.specs.Prelude.{ℕ, ◌+◌, ◌≤◌, ◌<◌, ◌≡◌, ◌↔◌, length, drop}
use mathlib.Core.List.{List, ◌++◌, Memᴰ}
use Rattle.definitions.specs.Location.{Location, moved, Sorted, Less}
use Rattle.definitions.specs.Calls.{last_number}
use Rattle.trie.specs.Trie.{Lists, Forest, leaf, more, Node, Trie, empty, root, IsNode, lists_at}

-- sibling bytes differ: the byte is not among these siblings
abbrev pub Absent : ℕ → Forest → Type 0
Absent b leaf = Unit {0}
Absent b (more c h below later) = (c ≡ b → ⊥) × Absent b later

abbrev pub Apart : Forest → Type 0
Apart leaf = Unit {0}
Apart (more b h below later) = Absent b later × Apart below × Apart later

-- a `chunks` entry: a piece with the path's bytes at l
abbrev pub Has : Node → List ℕ → Location → Type 0
Has n path l = Memᴰ l (lists_at n path).chunks

-- for i from 1 to m - 1, its bytes from i on (location + i) in the `prefixes` of the node at the end of that path
pub record OwedPrefix (n : Node) (path : List ℕ) (l : Location) : Type 0 where
  pub bytes : List ℕ
  pub at : Location
  pub has : Has n bytes at
  pub i : ℕ
  pub from : 1 ≤ i
  pub to : i < length bytes
  pub there : drop i bytes ≡ path
  pub is : l ≡ moved at i

-- its location in the `suffixes` of each node on its whole path at depths 0 to m - 1
pub record OwedSuffix (n : Node) (path : List ℕ) (l : Location) : Type 0 where
  pub bytes : List ℕ
  pub has : Has n bytes l
  pub rest : List ℕ
  pub on : bytes ≡ path ++ rest
  pub above : 0 < length rest

-- the path lies on one that a `chunks` entry owes
pub record OwedPath (n : Node) (path : List ℕ) : Type 0 where
  pub bytes : List ℕ
  pub at : Location
  pub has : Has n bytes at
  pub i : ℕ
  pub inside : i < length bytes
  pub rest : List ℕ
  pub on : drop i bytes ≡ path ++ rest

-- sorted, no repeats
pub record ListsSorted (h : Lists) : Type 0 where
  pub prefixes : Sorted Less h.prefixes
  pub chunks : Sorted Less h.chunks
  pub suffixes : Sorted Less h.suffixes

-- the checks behind refusals 5 and 6, for a piece of m bytes
pub record Passes (m : ℕ) (l : Location) : Type 0 where
  pub alive : l.created < l.destroyed
  pub below : l.address + m ≤ last_number

pub record NodeRule (n : Node) : Type 0 where
  -- no path exceeds 16
  pub short : (path : List ℕ) → IsNode n path → length path ≤ 16
  -- sibling bytes differ
  pub apart : Apart n.children
  -- every non-root node lies on a path owed by some `chunks` entry
  pub owed : (path : List ℕ) → 0 < length path → IsNode n path → OwedPath n path
  -- `prefixes` and `suffixes` hold exactly what the `chunks` entries owe
  pub prefixes : (path : List ℕ) (l : Location) → Memᴰ l (lists_at n path).prefixes ↔ OwedPrefix n path l
  pub suffixes : (path : List ℕ) (l : Location) → Memᴰ l (lists_at n path).suffixes ↔ OwedSuffix n path l
  -- sorted, no repeats
  pub sorted : (path : List ℕ) → ListsSorted (lists_at n path)
  -- every location in `chunks` passes the checks behind refusals 5 and 6 for its path
  pub passes : (path : List ℕ) (l : Location) → Has n path l → Passes (length path) l

-- an index with no root meets the rule
abbrev pub Rule : Trie → Type 0
Rule empty = Unit {0}
Rule (root n) = NodeRule n
