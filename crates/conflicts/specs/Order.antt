-- The order of pieces and its certificate: number and greatest end so far, for each piece that has a byte. Assumes nothing.
use Rattle.std.specs.Prelude.{ℕ, suc, max, cond, List, [], ◌∷◌, ◌++◌, length, get_or, eqb}
use Rattle.words.specs.Words.{bytes64}
use Rattle.definitions.specs.Location.{Location, order, is_lt}
use Rattle.definitions.specs.Blocks.{Piece}

-- a piece and its number in the order of arrival
pub record Entry : Type 0 where
  pub number : ℕ
  pub piece : Piece

-- an entry goes behind all whose location does not come after its own
unfoldable pub enter : Entry → List Entry → List Entry
enter e [] = e ∷ []
enter e (x ∷ xs) = cond (is_lt (order e.piece.at x.piece.at)) (e ∷ x ∷ xs) (x ∷ enter e xs)

-- a piece without a byte has no entry
abbrev pub enter_piece : ℕ → Piece → List Entry → List Entry
enter_piece k p es = cond (eqb (length p.bytes) 0) es (enter (record { number = k; piece = p }) es)

-- pieces from number k on, each entered
unfoldable pub enter_all : ℕ → List Piece → List Entry → List Entry
enter_all k [] es = es
enter_all k (p ∷ ps) es = enter_all (suc k) ps (enter_piece k p es)

-- the entries of pieces, by address, created, destroyed, number
abbrev pub ordered : List Piece → List Entry
ordered ps = enter_all 0 ps []

-- ── in memory: 16 bytes an entry ──

-- the greatest end so far at the address of l, behind an entry at address a with this reach
abbrev pub reach_at : (a reach : ℕ) → Location → ℕ
reach_at a reach l = cond (eqb a l.address) (max reach l.destroyed) l.destroyed

-- number and greatest end so far, behind an entry at address a with this reach
unfoldable pub entries_bytes : (a reach : ℕ) → List Entry → List ℕ
entries_bytes a reach [] = []
entries_bytes a reach (e ∷ es) =
    bytes64 e.number ++ (bytes64 (reach_at a reach e.piece.at) ++ entries_bytes e.piece.at.address (reach_at a reach e.piece.at) es)

-- the certificate of pieces
abbrev pub certificate : List Piece → List ℕ
certificate ps = entries_bytes 0 0 (ordered ps)

-- what stands behind the end of a list
abbrev pub nowhere : Location
nowhere = record { address = 0; created = 0; destroyed = 0 }

abbrev pub nothing : Piece
nothing = record { bytes = []; at = nowhere }

-- the piece of a number
abbrev pub nth : List Piece → ℕ → Piece
nth ps i = get_or ps i nothing

-- the location of a number
abbrev pub loc : List Location → ℕ → Location
loc ls i = get_or ls i nowhere

-- the entry of a number
abbrev pub entry : List Entry → ℕ → Entry
entry es i = get_or es i (record { number = 0; piece = nothing })
