-- Recording as a function on memory: the answer, and the memory afterwards. Assumes nothing.
use Rattle.std.specs.Prelude.{ℕ, ◌+◌, ◌*◌, ◌≤◌, ◌≡◌, false, cond, List, ◌++◌, length, eqb}
use Rattle.std.proofs.lemmas.List.Edits.{sets}
use Rattle.definitions.specs.Blocks.{Block, Piece, pieces, memory_kind}
use Rattle.definitions.specs.Blocks as B
use Rattle.definitions.specs.Conflicts.{clash}
use Rattle.definitions.specs.Causes.{first_cause}
use Rattle.definitions.specs.Calls.{Capacity, header_size, record_checks}
use Rattle.definitions.specs.Recording.{Sound}
use Rattle.memory_header.specs.Layout.{Header, logged_size, work_at, with_header}
use Rattle.memory_header.specs.Opening.{Done, unless_refused}
use Rattle.index_memory.specs.Log.{log_bytes}
use Rattle.index_memory.specs.Index.{Index, open_header, standing_of, read_index}
use Rattle.conflicts.specs.Order.{certificate}
use Rattle.certificate.specs.Stored.{pieces_in, Stored}
use Rattle.judging.specs.Judged.{piece_count}

-- ── pieces behind a log ──

-- the pieces go behind those that the header counts, and into the certificate; the header is not written yet
unfoldable pub logged : List ℕ → Header → List Piece → List ℕ
logged m h new = sets (sets m (header_size + logged_size * h.payload) (log_bytes new)) (work_at h.capacity) (certificate (pieces_in m h ++ new))

-- the pieces go behind the log, and the header counts them
unfoldable pub appended : List ℕ → Capacity → List Piece → List Piece → List ℕ
appended m c ps new = with_header (logged m (open_header c ps) new) (open_header c (ps ++ new))

-- a block that fits behind the pieces that h counts: it is sound, conflicts with none of them, and there is room for its pieces
pub record Fitting (m : List ℕ) (h : Header) (count : ℕ) (b : Block) : Type 0 where
  pub stored : Stored m h count
  pub sound : Sound b
  pub apart : clash (B.pieces b) (pieces_in m h) ≡ false
  pub log_room : header_size + logged_size * (h.payload + piece_count (length b.bytes)) ≤ work_at h.capacity
  pub room : work_at h.capacity + 16 * (count + piece_count (length b.bytes)) ≤ length m

-- how many pieces have a byte with a block of n bytes behind them
abbrev pub filled_after : (count kind n : ℕ) → ℕ
filled_after count kind n = cond (eqb kind memory_kind) (cond (eqb n 0) count (count + piece_count n)) count

-- ── record ──

-- what a memory holds decides: a Memory block that is taken goes behind the log, all else changes nothing
abbrev pub record_by : Index → List ℕ → ℕ → Block → Done
record_by i m kind b =
    unless_refused (first_cause (record_checks (standing_of i) kind b)) m
    (cond (eqb kind memory_kind) (appended m (standing_of i).capacity (standing_of i).pieces (pieces b)) m)

-- recording a block into a memory
unfoldable pub record_memory : List ℕ → ℕ → Block → Done
record_memory m kind b = record_by (read_index m) m kind b
