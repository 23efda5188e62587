-- The places of a query's ends by the nodes of an index: what is gone through from one end on, in two ways. Assumes nothing.
use Rattle.std.specs.Prelude.{ℕ, zero, suc, ◌-◌, Bool, true, false, List, [], ◌∷◌, ◌++◌, length, take, drop}
use Rattle.definitions.specs.Location.{Location}
use Rattle.trie.specs.Trie.{Lists, Node, leaf, Trie, empty, root, no_lists, lists_at, collect}
use Rattle.image_format.specs.Held.{trie_in}
use Rattle.trie.specs.Find.{along, suffixes_and_chunks, collected_at, ends_found, table_found}

-- the root of an index, or a node that holds nothing
abbrev pub root_of : Trie → Node
root_of empty = record { lists = no_lists; children = leaf }
root_of (root n) = n

-- that of an image
abbrev pub rooted : List ℕ → Node
rooted img = root_of (trie_in img)

-- the query's last byte
abbrev pub last_of : List ℕ → List ℕ
last_of q = drop (length q - 1) q

-- what ends at a node or goes beyond it, inside a query
abbrev pub ending_lists : Lists → List Location
ending_lists h = h.suffixes ++ h.chunks

-- ── at the query's front a piece may begin earlier ──

-- what ends at a node
abbrev pub ended_lists : Bool → Lists → List Location
ended_lists true h = h.prefixes ++ h.chunks
ended_lists false h = h.chunks

abbrev pub ended_by : Bool → Node → List ℕ → List Location
ended_by front n path = ended_lists front (lists_at n path)

-- what ends at a node or goes beyond it
abbrev pub beyond_of : Bool → Node → List Location
beyond_of true m = collect m
beyond_of false m = m.lists.suffixes ++ m.lists.chunks

abbrev pub beyond_by : Bool → Node → List ℕ → List Location
beyond_by true n path = collected_at n path
beyond_by false n path = suffixes_and_chunks n path

-- the places of a query, not yet sorted
abbrev pub along_from : Bool → Node → List ℕ → List Location
along_from front n [] = []
along_from front n (b ∷ q) = along (ended_by front n) (beyond_by front n) [] (b ∷ q) ([] ∷ ends_found n q)

-- those of the paths of at least k bytes
abbrev pub rest_along : Bool → Node → List ℕ → ℕ → List Location
rest_along front n w k = along (ended_by front n) (beyond_by front n) (take k w) (drop k w) (ends_found n (drop k w))

-- T(i) and all behind it
abbrev pub table_from : Node → List ℕ → ℕ → List (List Location)
table_from n q zero = table_found (root n) q
table_from n q (suc i) = ends_found n (drop (suc i) q)
