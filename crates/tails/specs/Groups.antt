-- The node of sorted tails that share their first d bytes: those that end there, then a group for each next byte.
-- Assumes nothing.
use Rattle.std.specs.Prelude.{ℕ, zero, suc, min, Bool, true, false, not, ◌&&◌, cond, ◌≡◌, length, get_or, leb, eqb}
use mathlib.Core.List.{List, [], ◌∷◌, Memᴰ}
use Rattle.definitions.specs.Location.{Location, normal}
use Rattle.trie.specs.Trie.{Lists, Forest, leaf, more, Node}
use Rattle.tails.specs.Tails.{Tail}

abbrev pub locations_of : List Tail → List Location
locations_of [] = []
locations_of (t ∷ ts) = t.entry.at ∷ locations_of ts

-- ── runs ──

-- the tail ends at depth d, and is a whole piece or not
abbrev pub ends_as : ℕ → Bool → Tail → Bool
ends_as d true t = eqb (length t.entry.path) d && t.entry.whole
ends_as d false t = eqb (length t.entry.path) d && not t.entry.whole

-- the first tails for which a test holds, and those from the first one on for which it does not
abbrev pub run : (Tail → Bool) → List Tail → List Tail
run f [] = []
run f (t ∷ ts) = cond (f t) (t ∷ run f ts) []

abbrev pub after_run : (Tail → Bool) → List Tail → List Tail
after_run f [] = []
after_run f (t ∷ ts) = cond (f t) (after_run f ts) (t ∷ ts)

-- the whole pieces among tails
abbrev pub wholes : List Tail → List Tail
wholes [] = []
wholes (t ∷ ts) = cond t.entry.whole (t ∷ wholes ts) (wholes ts)

-- ── groups ──

-- byte d of a tail
abbrev pub byte_at : ℕ → Tail → ℕ
byte_at d t = get_or t.entry.path d 0

-- tails with one byte, and the least of their arrival numbers
pub record Group : Type 0 where
  pub byte : ℕ
  pub first : ℕ
  pub tails : List Tail

-- the byte of each group
abbrev pub bytes_of : List Group → List ℕ
bytes_of [] = []
bytes_of (g ∷ gs) = g.byte ∷ bytes_of gs

-- a tail put in front of groups: into the first, where that has its byte
abbrev pub into_group : ℕ → Tail → List Group → List Group
into_group d t [] = record { byte = byte_at d t; first = t.arrival; tails = t ∷ [] } ∷ []
into_group d t (g ∷ gs) =
    cond (eqb (byte_at d t) g.byte)
    (record { byte = g.byte; first = min t.arrival g.first; tails = t ∷ g.tails } ∷ gs)
    (record { byte = byte_at d t; first = t.arrival; tails = t ∷ [] } ∷ g ∷ gs)

-- the groups of tails by their byte at d, in the order in which they stand
abbrev pub groups : ℕ → List Tail → List Group
groups d [] = []
groups d (t ∷ ts) = into_group d t (groups d ts)

-- by arrival: a group put behind those that arrived before it
abbrev pub arrive : Group → List Group → List Group
arrive g [] = g ∷ []
arrive g (h ∷ hs) = cond (leb g.first h.first) (g ∷ h ∷ hs) (h ∷ arrive g hs)

abbrev pub by_arrival : List Group → List Group
by_arrival [] = []
by_arrival (g ∷ gs) = arrive g (by_arrival gs)

-- an image keeps the arrival of at most 96 children; more are kept by byte
abbrev pub kept_groups : List Group → List Group
kept_groups gs = cond (leb (length gs) 96) (by_arrival gs) gs

-- no two groups have one least arrival number
abbrev pub Different : List Group → Type 0
Different [] = Unit {0}
Different (g ∷ gs) = ((h : Group) → Memᴰ h gs → ¬ (g.first ≡ h.first)) × Different gs

-- ── the node ──

abbrev pub below : ℕ → List Tail → List Tail
below d ts = after_run (ends_as d true) (after_run (ends_as d false) ts)

abbrev pub group_lists : ℕ → List Tail → Lists
group_lists d ts = record {
  prefixes = normal (locations_of (run (ends_as d false) ts));
  chunks = normal (locations_of (run (ends_as d true) (after_run (ends_as d false) ts)));
  suffixes = normal (locations_of (wholes (below d ts)));
}

abbrev pub group_forest : (List Tail → Node) → List Group → Forest
group_forest f [] = leaf
group_forest f (g ∷ gs) = more g.byte (f g.tails).lists (f g.tails).children (group_forest f gs)

-- the node of sorted tails that share their first d bytes, with n levels below it
abbrev pub group_node : ℕ → ℕ → List Tail → Node
group_node zero d ts = record { lists = group_lists d ts; children = leaf }
group_node (suc n) d ts = record { lists = group_lists d ts; children = group_forest (group_node n (suc d)) (kept_groups (groups d (below d ts))) }
