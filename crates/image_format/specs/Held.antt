-- The trie that an accepted image holds, by following the offsets of its tables. It judges nothing. Assumes nothing.
use Rattle.std.specs.Prelude.{ℕ, zero, suc, ◌+◌, ◌*◌, cond, List, [], ◌∷◌, get_or, eqb}
use Rattle.words.specs.Words.{le64}
use Rattle.definitions.specs.Location.{locations_in}
use Rattle.trie.specs.Trie.{Lists, Forest, leaf, more, Node, Trie, empty, root}

-- where the list at an index ends
abbrev pub list_end : List ℕ → ℕ → ℕ
list_end s at = at + 8 + 24 * le64 s at

-- the lists of the node at an index
unfoldable pub lists_in : List ℕ → ℕ → Lists
lists_in s at =
    let a = at + 1 in
    let b = list_end s a in
    let c = list_end s b in
    record { prefixes = locations_in s (le64 s a) (a + 8); chunks = locations_in s (le64 s b) (b + 8); suffixes = locations_in s (le64 s c) (c + 8) }

-- an entry of a table: a byte, and where the node behind the flag stands
pub record Entry : Type 0 where
  pub byte : ℕ
  pub node : ℕ

-- n entries of a table of kind 3 or 2, from number j on
unfoldable pub sparse_entries : List ℕ → ℕ → ℕ → ℕ → List Entry
sparse_entries s base zero j = []
sparse_entries s base (suc n) j = record { byte = get_or s (base + j * 9) 0; node = le64 s (base + j * 9 + 1) + 1 } ∷ sparse_entries s base n (j + 1)

-- n slots of a table of kind 1, from byte b on
unfoldable pub dense_entries : List ℕ → ℕ → ℕ → ℕ → List Entry
dense_entries s base zero b = []
dense_entries s base (suc n) b =
    cond (eqb (get_or s (le64 s (base + b * 8)) 0) 1)
    (record { byte = b; node = le64 s (base + b * 8) + 1 } ∷ dense_entries s base n (b + 1)) (dense_entries s base n (b + 1))

unfoldable pub table_entries : List ℕ → ℕ → List Entry
table_entries s at =
    let t = list_end s (list_end s (list_end s (at + 1))) in
    cond (eqb (get_or s at 0) 1) (dense_entries s t 256 0) (sparse_entries s (t + 8) (le64 s t) 0)

unfoldable pub forest_by : (ℕ → Node) → List Entry → Forest
forest_by rd [] = leaf
forest_by rd (e ∷ es) = more e.byte (rd e.node).lists (rd e.node).children (forest_by rd es)

-- the node at an index, to d levels below it
unfoldable pub node_in : List ℕ → ℕ → ℕ → Node
node_in s zero at = record { lists = lists_in s at; children = leaf }
node_in s (suc d) at = record { lists = lists_in s at; children = forest_by (node_in s d) (table_entries s at) }

unfoldable pub trie_in : List ℕ → Trie
trie_in s = cond (eqb (get_or s 0 0) 0) empty (root (node_in s 16 0))
