-- The trie that a log of pieces makes: children by first arrival, lists sorted and without repeats. Assumes nothing.
use Rattle.std.specs.Prelude.{ℕ, zero, suc, ◌<◌, Bool, true, false, cond, length, eqb, leb}
use mathlib.Core.List.{List, [], ◌∷◌, ◌++◌, Memᴰ}
use Rattle.definitions.specs.Location.{Location, moved, normal}
use Rattle.definitions.specs.Blocks.{Piece}
use Rattle.trie.specs.Trie.{Lists, Forest, leaf, more, Node, Trie, empty, root}

-- what is entered at the end of a path: its bytes from here on, its location, and whether it is a whole piece
pub record Entry : Type 0 where
  pub path : List ℕ
  pub at : Location
  pub whole : Bool

-- a piece of m bytes enters, for i from 1 to m-1, its bytes from i on (location + i)
abbrev pub parts : Location → List ℕ → List Entry
parts l [] = []
parts l (b ∷ []) = []
parts l (b ∷ c ∷ bs) = record { path = c ∷ bs; at = moved l 1; whole = false } ∷ parts (moved l 1) (c ∷ bs)

-- then itself
abbrev pub entered : Piece → List Entry
entered p = parts p.at p.bytes ++ (record { path = p.bytes; at = p.at; whole = true } ∷ [])

abbrev pub entered_all : List Piece → List Entry
entered_all [] = []
entered_all (p ∷ ps) = entered p ++ entered_all ps

-- ── the lists of a node, from what is entered at it or below it ──

-- a location for each list that the entry is in
abbrev pub in_prefixes : List ℕ → Bool → Location → List Location
in_prefixes [] false l = l ∷ []
in_prefixes [] true l = []
in_prefixes (b ∷ path) w l = []

abbrev pub in_chunks : List ℕ → Bool → Location → List Location
in_chunks [] true l = l ∷ []
in_chunks [] false l = []
in_chunks (b ∷ path) w l = []

abbrev pub in_suffixes : List ℕ → Bool → Location → List Location
in_suffixes (b ∷ path) true l = l ∷ []
in_suffixes (b ∷ path) false l = []
in_suffixes [] w l = []

abbrev pub gather : (List ℕ → Bool → Location → List Location) → List Entry → List Location
gather f [] = []
gather f (e ∷ es) = f e.path e.whole e.at ++ gather f es

-- each list is sorted and equal neighbours dropped
abbrev pub lists_of : List Entry → Lists
lists_of es = record { prefixes = normal (gather in_prefixes es); chunks = normal (gather in_chunks es); suffixes = normal (gather in_suffixes es) }

-- ── the children ──

-- what goes on with byte b, behind that byte
abbrev pub behind_byte : ℕ → List ℕ → Entry → List Entry
behind_byte b [] e = []
behind_byte b (c ∷ path) e = cond (eqb c b) (record { path = path; at = e.at; whole = e.whole } ∷ []) []

abbrev pub behind : ℕ → List Entry → List Entry
behind b [] = []
behind b (e ∷ es) = behind_byte b e.path e ++ behind b es

-- a byte is put behind those that arrived before, unless it is among them
abbrev pub arrived : ℕ → List ℕ → List ℕ
arrived b [] = b ∷ []
arrived b (c ∷ cs) = cond (eqb c b) (c ∷ cs) (c ∷ arrived b cs)

abbrev pub next_byte : List ℕ → List ℕ → List ℕ
next_byte [] seen = seen
next_byte (b ∷ path) seen = arrived b seen

-- the bytes that go on from here, by first arrival, behind those seen before
abbrev pub arrivals : List ℕ → List Entry → List ℕ
arrivals seen [] = seen
arrivals seen (e ∷ es) = arrivals (next_byte e.path seen) es

-- a byte put into an ascending list
abbrev pub by_byte : ℕ → List ℕ → List ℕ
by_byte b [] = b ∷ []
by_byte b (c ∷ cs) = cond (leb b c) (b ∷ c ∷ cs) (c ∷ by_byte b cs)

abbrev pub ascending : List ℕ → List ℕ
ascending [] = []
ascending (b ∷ bs) = by_byte b (ascending bs)

-- each below all behind it
abbrev pub Rising : List ℕ → Type 0
Rising [] = Unit {0}
Rising (b ∷ bs) = ((c : ℕ) → Memᴰ c bs → b < c) × Rising bs

-- an image keeps the arrival of at most 96 children; more are kept by byte
abbrev pub kept_order : List ℕ → List ℕ
kept_order bs = cond (leb (length bs) 96) bs (ascending bs)

abbrev pub grow : (List Entry → Node) → List ℕ → List Entry → Forest
grow f [] es = leaf
grow f (b ∷ bs) es = more b (f (behind b es)).lists (f (behind b es)).children (grow f bs es)

-- the node of what is entered at it or below it, with d levels below it
abbrev pub build : ℕ → List Entry → Node
build zero es = record { lists = lists_of es; children = leaf }
build (suc d) es = record { lists = lists_of es; children = grow (build d) (kept_order (arrivals [] es)) es }

-- the first piece makes the root
abbrev pub trie_of : List Piece → Trie
trie_of [] = empty
trie_of (p ∷ ps) = root (build 16 (entered_all (p ∷ ps)))
