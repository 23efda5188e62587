-- The pieces of a block by their number. Assumes nothing.
use Rattle.std.specs.Prelude.{ℕ, zero, suc, ◌*◌, List, [], ◌∷◌, take, drop}
use Rattle.definitions.specs.Location.{moved}
use Rattle.definitions.specs.Blocks.{Block, Piece}

-- the piece of a block from its byte `start` on
abbrev pub part : Block → ℕ → Piece
part b start = record { bytes = take 16 (drop start b.bytes); at = moved b.at start }

-- the first k pieces of a block, the hindmost of them first
unfoldable pub parts : Block → ℕ → List Piece
parts b zero = []
parts b (suc k) = part b (16 * k) ∷ parts b k
