-- What entering new pieces into a certificate asks for. Assumes nothing.
use Rattle.std.specs.Prelude.{ℕ, suc, ◌+◌, ◌*◌, ◌≤◌, ◌<◌, ◌≡◌, true, List, length}
use Rattle.definitions.specs.Blocks.{Piece}
use Rattle.definitions.specs.Conflicts.{free}
use Rattle.definitions.specs.Calls.{header_size}
use Rattle.memory_header.specs.Layout.{Header, logged_size, work_at}
use Rattle.conflicts.specs.Order.{nth}
use Rattle.index_memory.specs.Log.{log_in, log_sound}
use Rattle.certificate.specs.Stored.{Stored}

-- the pieces that h counts, and behind them so many new ones
abbrev pub all_pieces : List ℕ → Header → ℕ → List Piece
all_pieces m h new = log_in m (h.payload + new) header_size

-- the new pieces have a byte each and descend by address; with those that h counts they are sound and free of conflicts
pub record Entering (m : List ℕ) (h : Header) (count new : ℕ) : Type 0 where
  pub stored : Stored m h count
  pub sound : log_sound m (h.payload + new) header_size ≡ true
  pub apart : free (all_pieces m h new) ≡ true
  pub some : (j : ℕ) → j < new → 0 < length (nth (all_pieces m h new) (h.payload + j)).bytes
  pub descend : (j : ℕ) → suc j < new → (nth (all_pieces m h new) (h.payload + suc j)).at.address < (nth (all_pieces m h new) (h.payload + j)).at.address
  pub log_room : header_size + logged_size * (h.payload + new) ≤ work_at h.capacity
  pub room : work_at h.capacity + 16 * (count + new) ≤ length m
