-- An open index's pieces and their certificate in memory. Assumes nothing.
use Rattle.std.specs.Prelude.{ℕ, ◌+◌, ◌*◌, ◌≤◌, ◌≡◌, true, List, length}
use Rattle.words.specs.Holding.{Holds}
use Rattle.definitions.specs.Blocks.{Piece}
use Rattle.definitions.specs.Conflicts.{free}
use Rattle.definitions.specs.Calls.{header_size}
use Rattle.memory_header.specs.Layout.{Header, logged_size, work_at}
use Rattle.conflicts.specs.Order.{certificate}
use Rattle.conflicts.specs.Promises.{filled}
use Rattle.lined_locations.specs.declared.Line.{Line}
use Rattle.index_memory.specs.Log.{log_in, log_sound}

-- the pieces that a header counts
abbrev pub pieces_in : List ℕ → Header → List Piece
pieces_in m h = log_in m h.payload header_size

-- the pieces that h counts are sound and free of conflicts, and so many of them have a byte; their certificate stands behind the payload
pub record Stored (m : List ℕ) (h : Header) (count : ℕ) : Type 0 where
  pub sound : log_sound m h.payload header_size ≡ true
  pub apart : free (pieces_in m h) ≡ true
  pub certified : Holds m (work_at h.capacity) (certificate (pieces_in m h))
  pub counted : count ≡ filled (pieces_in m h)
  pub some_nodes : h.capacity.nodes ≤ 1048576
  pub some_entries : h.capacity.entries ≤ 1048576
  pub log_room : header_size + logged_size * h.payload ≤ work_at h.capacity
  pub room : work_at h.capacity + 16 * count ≤ length m

-- a line of so many entries of the certificate behind the payload of h
pub record StandsFor (m : List ℕ) (h : Header) (count : ℕ) (v : Line) : Type 0 where
  pub bytes : v.bytes.now ≡ m
  pub base : v.base ≡ work_at h.capacity
  pub counted : v.count ≡ count
