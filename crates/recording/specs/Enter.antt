-- Entering a block into an open index whose header is written later: what it answers, and the memory afterwards. Assumes nothing.
use Rattle.std.specs.Prelude.{ℕ, ◌≡◌, cond, List, length, eqb}
use Rattle.definitions.specs.Blocks.{Block, Piece, memory_kind}
use Rattle.definitions.specs.Blocks as B
use Rattle.definitions.specs.Conflicts.{clash}
use Rattle.definitions.specs.Causes.{first_cause}
use Rattle.definitions.specs.Calls.{kind_checks}
use Rattle.memory_header.specs.Layout.{Header, with_header}
use Rattle.memory_header.specs.Opening.{Done}
use Rattle.index_memory.specs.Index.{opened, open_header, read_index}
use Rattle.conflicts.specs.Promises.{filled}
use Rattle.certificate.specs.Stored.{pieces_in}
use Rattle.judging.specs.Judged.{grown, Verdict, counted, refused, verdict, judged_checks}
use Rattle.recording.specs.Record.{logged, filled_after}

-- with this header, which counts its pieces, the memory is an open index
pub record Pending (m : List ℕ) (h : Header) : Type 0 where
  pub pieces : List Piece
  pub counts : h ≡ open_header h.capacity pieces
  pub holds : read_index (with_header m h) ≡ opened h.capacity pieces

-- a block by its kind and, if that is Memory, by the pieces held and the header's value; one of kind 0, 2, 3 or 4 is taken, and the
-- header stays
abbrev pub judged_by_kind : List ℕ → Header → ℕ → Block → Verdict
judged_by_kind m h kind b =
    verdict (first_cause (kind_checks kind (judged_checks h (clash (B.pieces b) (pieces_in m h)) (length b.bytes) b.at)))
    (cond (eqb kind memory_kind) (grown h (length b.bytes)) h)

-- a refused block changes nothing
abbrev pub unless_turned_back : Verdict → List ℕ → List ℕ → List ℕ
unless_turned_back (counted h) old new = new
unless_turned_back (refused n) old new = old

-- the pieces of a Memory block that is taken go behind the log and into the certificate; the header is not written yet
abbrev pub entered : List ℕ → Header → ℕ → Block → List ℕ
entered m h kind b = unless_turned_back (judged_by_kind m h kind b) m (cond (eqb kind memory_kind) (logged m h (B.pieces b)) m)

-- the answer and the memory once the header is written
abbrev pub settled : Verdict → Header → List ℕ → Done
settled (counted new) h m = record { refusal = 0; memory = with_header m new }
settled (refused n) h m = record { refusal = n; memory = with_header m h }

-- where a block is taken, so many of the pieces that its header counts have a byte
abbrev pub FilledAfter : Verdict → List ℕ → (count kind n : ℕ) → Type 0
FilledAfter v m count kind n = (new : Header) → v ≡ counted new → filled (pieces_in m new) ≡ filled_after count kind n
