-- The index rule by local conditions: a node against its children, and against the nodes with one byte more in front.
-- Assumes nothing.
use Rattle.std.specs.Prelude.{ℕ, ◌≤◌, ◌<◌, ◌≡◌, ◌⊎◌, ◌↔◌, length}
use mathlib.Core.List.{List, [], ◌∷◌, ◌++◌, Memᴰ}
use Rattle.definitions.specs.Location.{Location, moved}
use Rattle.trie.specs.Trie.{Node, IsNode, lists_at}
use Rattle.trie.specs.Rule.{Apart, Has, ListsSorted, Passes}

-- l is a chunk or a suffix of a child of the node at the path
pub record FromChild (n : Node) (path : List ℕ) (l : Location) : Type 0 where
  pub byte : ℕ
  pub listed : Memᴰ l (lists_at n (path ++ (byte ∷ []))).chunks ⊎ Memᴰ l (lists_at n (path ++ (byte ∷ []))).suffixes

-- l is, one address further on, a chunk or a prefix of a node whose path has one byte more in front
pub record FromFront (n : Node) (path : List ℕ) (l : Location) : Type 0 where
  pub byte : ℕ
  pub at : Location
  pub listed : Memᴰ at (lists_at n (byte ∷ path)).chunks ⊎ Memᴰ at (lists_at n (byte ∷ path)).prefixes
  pub is : l ≡ moved at 1

-- the node at the path has a child
pub record HasChild (n : Node) (path : List ℕ) : Type 0 where
  pub byte : ℕ
  pub there : IsNode n (path ++ (byte ∷ []))

-- the node at the path has a prefix or a chunk
pub record HasEnd (n : Node) (path : List ℕ) : Type 0 where
  pub at : Location
  pub listed : Memᴰ at (lists_at n path).prefixes ⊎ Memᴰ at (lists_at n path).chunks

pub record LocalRule (n : Node) : Type 0 where
  pub short : (path : List ℕ) → IsNode n path → length path ≤ 16
  pub apart : Apart n.children
  -- the suffixes of a node are the chunks and suffixes of its children
  pub suffixes : (path : List ℕ) → IsNode n path → (l : Location) → Memᴰ l (lists_at n path).suffixes ↔ FromChild n path l
  -- the prefixes of a node are those that its fronts owe; the root has none
  pub root_prefixes : (l : Location) → Memᴰ l (lists_at n []).prefixes → ⊥
  pub prefixes : (path : List ℕ) → 0 < length path → IsNode n path → (l : Location) → Memᴰ l (lists_at n path).prefixes ↔ FromFront n path l
  -- a path without its first byte is a path too
  pub shorter : (byte : ℕ) (path : List ℕ) → IsNode n (byte ∷ path) → IsNode n path
  -- a node other than the root has a child, a prefix or a chunk
  pub ended : (path : List ℕ) → 0 < length path → IsNode n path → HasChild n path ⊎ HasEnd n path
  pub sorted : (path : List ℕ) → IsNode n path → ListsSorted (lists_at n path)
  pub passes : (path : List ℕ) (l : Location) → Has n path l → Passes (length path) l
