-- Document 01, "Places": T(i) by chains of pieces, and the table that computes it from the back. Assumes nothing.
use Rattle.std.specs.Prelude.{ℕ, zero, suc, ◌+◌, ◌<◌, ◌≡◌, ◌&&◌, cond, length, drop, eqb}
use mathlib.Core.List.{List, [], ◌∷◌, ◌++◌, Memᴰ}
use Rattle.std.proofs.Math.Option.{some}
use Rattle.definitions.specs.Location.{Location, meets, common, overlap, normal}
use Rattle.definitions.specs.Blocks.{Piece, tails}

-- ── T(i) by chains ──

-- q is covered by a chain of non-empty pieces, the first of firsts and the others of ps, each with a byte of q in it,
-- each beginning where the one before ends, the last perhaps going on beyond q; life is the overlap of all
pub data Chain (ps : List Piece) : List Piece → List ℕ → Location → Type 0 where
  last : {firsts : List Piece} {q : List ℕ} {life : Location} (p : Piece) (beyond : List ℕ) → Memᴰ p firsts → 0 < length q → p.bytes ≡ q ++ beyond → life ≡ p.at → Chain ps firsts q life
  link : {firsts : List Piece} {q : List ℕ} {life : Location} (p : Piece) (rest : List ℕ) (next : Location) → Memᴰ p firsts → 0 < length p.bytes → q ≡ p.bytes ++ rest → Chain ps ps rest next → next.address ≡ p.at.address + length p.bytes → overlap p.at next ≡ some life → Chain ps firsts q life

-- the members of T(i); for i >= 1 the first piece begins at q's byte i, for i = 0 it may begin earlier
abbrev pub T : List Piece → List ℕ → ℕ → Location → Type 0
T ps q zero l = Chain ps (tails ps) q l
T ps q (suc i) l = Chain ps ps (drop (suc i) q) l

-- life is never empty, since no piece's is
abbrev pub NeverEmpty : Type 0
NeverEmpty = (ps : List Piece) → ((p : Piece) → Memᴰ p ps → p.at.created < p.at.destroyed) → (q : List ℕ) (i : ℕ) (l : Location) → T ps q i l → l.created < l.destroyed

-- ── the table ──

-- how a piece's bytes lie on a query: they differ, they cover it, or they end first, and the rest has these places
pub data Reach : Type 0 where
  misses : Reach
  covers : Reach
  onward : List Location → Reach

abbrev pub first_of : List (List Location) → List Location
first_of [] = []
first_of (t ∷ ts) = t

abbrev pub rest_of : List (List Location) → List (List Location)
rest_of [] = []
rest_of (t ∷ ts) = ts

-- ts has the places of the query and of each of its ends
abbrev pub reach : List ℕ → List ℕ → List (List Location) → Reach
reach cs [] ts = covers
reach [] (b ∷ q) ts = onward (first_of ts)
reach (c ∷ cs) (b ∷ q) ts = cond (eqb c b) (reach cs q (rest_of ts)) misses

-- the places of a list that begin at `next` and overlap l, each joined to l
abbrev pub joins : Location → ℕ → List Location → List Location
joins l next [] = []
joins l next (m ∷ ms) = cond (eqb m.address next && meets l m) (common l m ∷ joins l next ms) (joins l next ms)

abbrev pub extend : Location → ℕ → Reach → List Location
extend l next misses = []
extend l next covers = l ∷ []
extend l next (onward ms) = joins l next ms

-- a piece at the query's first byte; ts has the places of the query's later bytes
abbrev pub by_piece : Piece → List ℕ → List (List Location) → List Location
by_piece p q ts = extend p.at (p.at.address + length p.bytes) (reach p.bytes q ([] ∷ ts))

abbrev pub by_pieces : List Piece → List ℕ → List (List Location) → List Location
by_pieces [] q ts = []
by_pieces (p ∷ ps) q ts = by_piece p q ts ++ by_pieces ps q ts

-- the places of a query and of each of its ends, the first piece beginning there
abbrev pub ends : List Piece → List ℕ → List (List Location)
ends ps [] = []
ends ps (b ∷ q) = let ts = ends ps q in normal (by_pieces ps (b ∷ q) ts) ∷ ts

-- T(0), sorted
abbrev pub places : List Piece → List ℕ → List Location
places ps [] = []
places ps (b ∷ q) = normal (by_pieces (tails ps) (b ∷ q) (ends ps q))

-- T(0) to T(n-1), each sorted, each place once
abbrev pub table : List Piece → List ℕ → List (List Location)
table ps [] = []
table ps (b ∷ q) = places ps (b ∷ q) ∷ ends ps q

-- ── the count behind refusal 10 ──

abbrev pub sizes : List (List Location) → ℕ
sizes [] = 0
sizes (t ∷ ts) = length t + sizes ts

-- the sizes of all T(i) together
abbrev pub places_counted : List Piece → List ℕ → ℕ
places_counted ps q = sizes (table ps q)
