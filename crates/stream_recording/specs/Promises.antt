-- What a reader may conclude of a stream that is recorded in one call. Assumes nothing.
use Rattle.std.specs.Prelude.{ℕ, zero, suc, ◌≡◌, true, List, [], ◌∷◌, ◌⊎◌, length}
use Rattle.std.proofs.Math.Option.{none}
use Rattle.definitions.specs.Blocks.{Block}
use Rattle.definitions.specs.BlockStream.{Read, block, nothing, refused, read_block}
use Rattle.definitions.specs.Causes.{first_cause, checked, record_stream_call, numbered}
use Rattle.definitions.specs.Calls.{stream_checks}
use Rattle.index_memory.specs.Index.{standing_of, read_index}
use Rattle.recording.specs.Record.{record_memory}
use Rattle.stream_recording.specs.Stream.{record_stream}

-- ── the blocks of a stream, one by one ──

-- a block and its kind
pub record Sent : Type 0 where
  pub kind : ℕ
  pub sent : Block

abbrev pub sent_next : Read → (ℕ → List Sent) → List Sent
sent_next (block kind b next) rest = record { kind = kind; sent = b } ∷ rest next
sent_next nothing rest = []
sent_next (refused n) rest = []

-- the first n blocks from a cursor on, fewer where reading ends before
unfoldable pub first_blocks : ℕ → List ℕ → (at : ℕ) → List Sent
first_blocks zero s at = []
first_blocks (suc n) s at = sent_next (read_block s at) (first_blocks n s)

abbrev pub cursor_next : Read → ℕ → (ℕ → ℕ) → ℕ
cursor_next (block kind b next) at rest = rest next
cursor_next nothing at rest = at
cursor_next (refused n) at rest = at

-- the cursor behind them
unfoldable pub cursor_behind : ℕ → List ℕ → (at : ℕ) → ℕ
cursor_behind zero s at = at
cursor_behind (suc n) s at = cursor_next (read_block s at) at (cursor_behind n s)

-- the memory after recording blocks one by one, one call for each
abbrev pub recorded_singly : List ℕ → List Sent → List ℕ
recorded_singly m [] = m
recorded_singly m (x ∷ xs) = recorded_singly (record_memory m x.kind x.sent).memory xs

-- and none of these calls is refused
abbrev pub AllTaken : List ℕ → List Sent → Type 0
AllTaken m [] = Unit {0}
AllTaken m (x ∷ xs) = ((record_memory m x.kind x.sent).refusal ≡ 0) × AllTaken (record_memory m x.kind x.sent).memory xs

-- the number that reading the next block gives, or else recording it; 0 at the stream's end
abbrev pub next_number : Read → List ℕ → ℕ
next_number (block kind b next) m = (record_memory m kind b).refusal
next_number nothing m = 0
next_number (refused n) m = n

-- ── a stream call is single records ──

-- an index that takes records: the stream meets neither 1 nor 2
abbrev pub TakesRecords : List ℕ → Type 0
TakesRecords m = first_cause (stream_checks (standing_of (read_index m))) ≡ none

-- the first n blocks recorded one by one, n as answered: all of them are taken, and the next one gives the number
pub record Singly (m s : List ℕ) : Type 0 where
  pub as_many : length (first_blocks (record_stream m s).taken s 0) ≡ (record_stream m s).taken
  pub taken : AllTaken m (first_blocks (record_stream m s).taken s 0)
  pub memory : (record_stream m s).memory ≡ recorded_singly m (first_blocks (record_stream m s).taken s 0)
  pub number : (record_stream m s).refusal ≡ next_number (read_block s (cursor_behind (record_stream m s).taken s 0)) (record_stream m s).memory
  -- the number is 0 exactly where the stream ends there
  pub all : (record_stream m s).refusal ≡ 0 → read_block s (cursor_behind (record_stream m s).taken s 0) ≡ nothing

abbrev pub StreamIsSingle : Type 0
StreamIsSingle = (m s : List ℕ) → TakesRecords m → Singly m s

-- with no block taken the memory is as it was, whatever the number
abbrev pub StreamLeaves : Type 0
StreamLeaves = (m s : List ℕ) → (record_stream m s).taken ≡ 0 → (record_stream m s).memory ≡ m

-- the number is 0 or that of a cause in the stream's row of `checked`
abbrev pub StreamNumbers : Type 0
StreamNumbers = (m s : List ℕ) → ((record_stream m s).refusal ≡ 0) ⊎ (numbered (record_stream m s).refusal (checked record_stream_call) ≡ true)
