-- What a reader may conclude of the memory that recording leaves. Assumes nothing.
use Rattle.std.specs.Prelude.{ℕ, ◌≡◌, List, ◌++◌, length}
use Rattle.std.proofs.Math.Option.{none}
use Rattle.definitions.specs.Blocks.{Block, Piece, pieces}
use Rattle.definitions.specs.Causes.{first_cause}
use Rattle.definitions.specs.Calls.{Capacity, block_checks}
use Rattle.location.specs.Fits.{Fits}
use Rattle.memory_header.specs.Layout.{Header, with_header}
use Rattle.index_memory.specs.Index.{opened, read_index}
use Rattle.conflicts.specs.Promises.{filled}
use Rattle.certificate.specs.Stored.{pieces_in}
use Rattle.judging.specs.Judged.{counted}
use Rattle.recording.specs.Record.{appended, filled_after, record_memory}
use Rattle.recording.specs.Enter.{Pending, judged_by_kind, entered, settled}

-- a block that is taken stands behind the pieces that were there
abbrev pub ReadAppended : Type 0
ReadAppended =
    (m : List ℕ) (c : Capacity) (ps : List Piece) (b : Block) → read_index m ≡ opened c ps → first_cause (block_checks c ps b) ≡ none → Fits b.at
    → read_index (appended m c ps (pieces b)) ≡ opened c (ps ++ pieces b)

-- the memory is as long as it was
abbrev pub LengthAppended : Type 0
LengthAppended = (m : List ℕ) (c : Capacity) (ps new : List Piece) → length (appended m c ps new) ≡ length m

-- entering a block and then writing the header is recording it into the memory with its header
abbrev pub EnteredRecords : Type 0
EnteredRecords =
    (m : List ℕ) (h : Header) (kind : ℕ) (b : Block) → Pending m h
    → record_memory (with_header m h) kind b ≡ settled (judged_by_kind m h kind b) h (entered m h kind b)

-- and the next block can be entered behind it
abbrev pub EnteredPending : Type 0
EnteredPending =
    (m : List ℕ) (h new : Header) (kind : ℕ) (b : Block) → Pending m h → Fits b.at → judged_by_kind m h kind b ≡ counted new
    → Pending (entered m h kind b) new

-- so many pieces have a byte then
abbrev pub EnteredFilled : Type 0
EnteredFilled =
    (m : List ℕ) (h new : Header) (kind : ℕ) (b : Block) → Pending m h → Fits b.at → judged_by_kind m h kind b ≡ counted new
    → filled (pieces_in (entered m h kind b) new) ≡ filled_after (filled (pieces_in m h)) kind (length b.bytes)
