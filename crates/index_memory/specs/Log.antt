-- The log of an open index: its pieces in the order of their arrival, 48 bytes each. Assumes nothing.
use Rattle.std.specs.Prelude.{ℕ, zero, suc, ◌+◌, ◌-◌, ◌≤◌, Bool, true, ◌&&◌, length, take, drop, replicate, ltb, leb}
use mathlib.Core.List.{List, [], ◌∷◌, ◌++◌, Memᴰ}
use Rattle.words.specs.Words.{le64, bytes64}
use Rattle.definitions.specs.Location.{location_at, location_bytes}
use Rattle.definitions.specs.Blocks.{Piece, piece_size}
use Rattle.definitions.specs.Calls.{last_number}
use Rattle.memory_header.specs.Layout.{logged_size}

-- a piece in the log: its length, its bytes padded with zeros to 16, its location
abbrev pub piece_in : List ℕ → ℕ → Piece
piece_in m p = record { bytes = take (le64 m p) (drop (p + 8) m); at = location_at m (p + 24) }

-- pieces that fit there
abbrev pub AllSmall : List Piece → Type 0
AllSmall ps = (p : Piece) → Memᴰ p ps → length p.bytes ≤ piece_size

-- the bytes of a piece there
unfoldable pub piece_bytes : Piece → List ℕ
piece_bytes p = bytes64 (length p.bytes) ++ (p.bytes ++ (replicate (piece_size - length p.bytes) 0 ++ location_bytes p.at))

-- n pieces from index p on
unfoldable pub log_in : List ℕ → ℕ → ℕ → List Piece
log_in m zero p = []
log_in m (suc n) p = piece_in m p ∷ log_in m n (p + logged_size)

-- the bytes of pieces that stand one after the other
unfoldable pub log_bytes : List Piece → List ℕ
log_bytes [] = []
log_bytes (p ∷ ps) = piece_bytes p ++ log_bytes ps

-- ── the index rule of an open index ──

-- a piece has at most 16 bytes and passes the checks behind refusals 5 and 6
abbrev pub piece_sound : List ℕ → ℕ → Bool
piece_sound m p = leb (le64 m p) piece_size && (ltb (le64 m (p + 32)) (le64 m (p + 40)) && leb (le64 m (p + 24) + le64 m p) last_number)

-- n pieces from index p on are sound
unfoldable pub log_sound : List ℕ → ℕ → ℕ → Bool
log_sound m zero p = true
log_sound m (suc n) p = piece_sound m p && log_sound m n (p + logged_size)
