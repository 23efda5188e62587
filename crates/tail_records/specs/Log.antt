-- The log that tails are made of: what is asked of its pieces; and the numbers of a record. Assumes nothing.
use Rattle.std.specs.Prelude.{ℕ, ◌+◌, ◌*◌, ◌≤◌, ◌<◌, List, [], ◌∷◌}
use Rattle.words.specs.Words.{le64}
use Rattle.definitions.specs.Location.{Location}
use Rattle.definitions.specs.Calls.{last_number}

-- the piece at p has at most 16 bytes, and none of them stands behind the last address
pub record SoundPiece (m : List ℕ) (p : ℕ) : Type 0 where
  pub short : le64 m p ≤ 16
  pub address : le64 m (p + 24) + le64 m p ≤ last_number

-- so do n pieces from p on, 48 bytes each
pub record SoundLog (m : List ℕ) (n p : ℕ) : Type 0 where
  pub each : (j : ℕ) → j < n → SoundPiece m (p + 48 * j)

-- a record of these numbers
abbrev pub numbers : ℕ → ℕ → ℕ → Location → ℕ → List ℕ
numbers first second mark l arrival = first ∷ second ∷ mark ∷ l.address ∷ l.created ∷ l.destroyed ∷ arrival ∷ []
