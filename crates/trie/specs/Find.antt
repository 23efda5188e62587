-- A query's places as the nodes have them: suffixes, whole pieces, prefixes, from the back of the query. Assumes nothing.
use Rattle.std.specs.Prelude.{ℕ, ◌+◌, List, [], ◌∷◌, ◌++◌, length}
use Rattle.std.proofs.Math.Option.{Option, none, some}
use Rattle.definitions.specs.Location.{Location, normal}
use Rattle.definitions.specs.Places.{first_of, rest_of, joins}
use Rattle.trie.specs.Trie.{Node, Trie, empty, root, node_at, lists_at, collect}

-- each location of a list joined to the places that begin n bytes further on
abbrev pub joins_each : ℕ → List Location → List Location → List Location
joins_each n [] ms = []
joins_each n (l ∷ ls) ms = joins l (l.address + n) ms ++ joins_each n ls ms

-- along a query: what ends at a node of its path goes on with the places of the rest; at the path's end what goes beyond it
abbrev pub along : (List ℕ → List Location) → (List ℕ → List Location) → List ℕ → List ℕ → List (List Location) → List Location
along ended beyond path [] ts = beyond path
along ended beyond path (b ∷ q) ts = joins_each (length path) (ended path) (first_of ts) ++ along ended beyond (path ++ (b ∷ [])) q (rest_of ts)

-- ── the first piece begins at the query's byte ──

abbrev pub chunks_at : Node → List ℕ → List Location
chunks_at n path = (lists_at n path).chunks

abbrev pub suffixes_and_chunks : Node → List ℕ → List Location
suffixes_and_chunks n path = (lists_at n path).suffixes ++ (lists_at n path).chunks

-- T(i) for each end of the query, i >= 1
abbrev pub ends_found : Node → List ℕ → List (List Location)
ends_found n [] = []
ends_found n (b ∷ q) = let ts = ends_found n q in normal (along (chunks_at n) (suffixes_and_chunks n) [] (b ∷ q) ([] ∷ ts)) ∷ ts

-- ── the first piece may begin earlier ──

abbrev pub prefixes_and_chunks : Node → List ℕ → List Location
prefixes_and_chunks n path = (lists_at n path).prefixes ++ (lists_at n path).chunks

abbrev pub collect_or_none : Option Node → List Location
collect_or_none none = []
collect_or_none (some m) = collect m

-- `prefixes` and `chunks` of the node at a path and all under it
abbrev pub collected_at : Node → List ℕ → List Location
collected_at n path = collect_or_none (node_at n path)

-- T(0)
abbrev pub places_found : Node → List ℕ → List Location
places_found n [] = []
places_found n (b ∷ q) = normal (along (prefixes_and_chunks n) (collected_at n) [] (b ∷ q) ([] ∷ ends_found n q))

-- T(0) to T(n-1)
abbrev pub table_found : Trie → List ℕ → List (List Location)
table_found empty [] = []
table_found empty (b ∷ q) = [] ∷ table_found empty q
table_found (root n) [] = []
table_found (root n) (b ∷ q) = places_found n (b ∷ q) ∷ ends_found n q
