-- Document 01, "Record": blocks, the pieces that a block is cut into, and what a piece charges. Assumes nothing.
use Rattle.std.specs.Prelude.{ℕ, zero, suc, ◌+◌, ◌*◌, ◌/◌, cond, List, [], ◌∷◌, ◌++◌, length, take, drop, leb}
use Rattle.definitions.specs.Location.{Location, location, moved}

-- these bytes, at this address, from this tick to that
pub record Block : Type 0 where
  pub bytes : List ℕ
  pub at : Location

-- by its bytes and numbers
abbrev pub bytes_at : List ℕ → (address created destroyed : ℕ) → Block
bytes_at bs a c d = record { bytes = bs; at = location a c d }

-- a piece is a block of at most 16 bytes
abbrev pub Piece : Type 0
Piece = Block

-- the kind of a block whose bytes are recorded
abbrev pub memory_kind : ℕ
memory_kind = 1

-- the kinds that there are: Constant 0, Memory 1, Register 2, Unique 3, Other 4
abbrev pub last_kind : ℕ
last_kind = 4

abbrev pub piece_size : ℕ
piece_size = 16

-- cut from the front into pieces of 16 bytes, the last 1 to 16, the hindmost first; n is more than the bytes
abbrev pub cut : ℕ → Location → List ℕ → List Piece
cut zero l bs = []
cut (suc n) l bs =
    cond (leb (length bs) piece_size)
    (record { bytes = bs; at = l } ∷ [])
    (cut n (moved l piece_size) (drop piece_size bs) ++ (record { bytes = take piece_size bs; at = l } ∷ []))

-- the pieces of a block in the order in which they are inserted; an empty block is one empty piece
abbrev pub pieces : Block → List Piece
pieces b = cut (suc (length b.bytes)) b.at b.bytes

-- the pieces of blocks that are recorded one after the other
abbrev pub pieces_of : List Block → List Piece
pieces_of [] = []
pieces_of (b ∷ bs) = pieces b ++ pieces_of bs

-- a piece from each of its bytes on
abbrev pub tails_of : Location → List ℕ → List Piece
tails_of l [] = []
tails_of l (b ∷ bs) = record { bytes = b ∷ bs; at = l } ∷ tails_of (moved l 1) bs

abbrev pub tails : List Piece → List Piece
tails [] = []
tails (p ∷ ps) = tails_of p.at p.bytes ++ tails ps

-- ── charges ──

-- a piece of m bytes charges m(m+1)/2 nodes
abbrev pub node_charge : ℕ → ℕ
node_charge m = m * (m + 1) / 2

-- and 2m entries, an empty piece one
abbrev pub entry_charge : ℕ → ℕ
entry_charge zero = 1
entry_charge (suc m) = 2 * suc m

-- the sum of a charge over pieces
abbrev pub charge : (ℕ → ℕ) → List Piece → ℕ
charge f [] = 0
charge f (p ∷ ps) = f (length p.bytes) + charge f ps

-- the nodes that pieces tally; the root charges one node always
abbrev pub nodes_tallied : List Piece → ℕ
nodes_tallied ps = 1 + charge node_charge ps

-- the entries that they tally
abbrev pub entries_tallied : List Piece → ℕ
entries_tallied ps = charge entry_charge ps
