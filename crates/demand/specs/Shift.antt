-- Document 02, request 1: lists of calls with stream calls among them. Assumes nothing.
use Rattle.std.specs.Prelude.{ℕ, ◌<◌, ◌≡◌, length}
use mathlib.Core.List.{List, [], ◌∷◌, ◌++◌, Memᴰ}
use Rattle.definitions.specs.Location.{Location}
use Rattle.definitions.specs.Runs.{Query}
use Rattle.definitions.specs.Calls.{Capacity}
use Rattle.definitions.specs.Recording.{Call, record_block, finish}
use Rattle.memory_header.specs.Opening.{open_memory}
use Rattle.rows.specs.declared.Row.{Row}
use Rattle.handing_over.specs.Search.{search_memory}
use Rattle.saving.specs.Saving.{save_memory}
use Rattle.stream_recording.specs.Stream.{record_stream}
use Rattle.stream_recording.specs.Promises.{Sent, first_blocks}
use Rattle.string_index.specs.Finish.{finish_memory}
use Rattle.demand.specs.Demand.{memory_after, memory_after_all, CallFits, Recording, final, HandsOver, Exactly}

-- ── calls ──

-- a single call, or a stream call
pub data ShiftCall : Type 0 where
  single : Call → ShiftCall
  stream : List ℕ → ShiftCall

-- the memory that a call leaves
abbrev pub memory_after_shift : List ℕ → ShiftCall → List ℕ
memory_after_shift m (single k) = memory_after m k
memory_after_shift m (stream s) = (record_stream m s).memory

-- each call gets the memory as the call before left it
abbrev pub memory_after_shifts : List ℕ → List ShiftCall → List ℕ
memory_after_shifts m [] = m
memory_after_shifts m (k ∷ ks) = memory_after_shifts (memory_after_shift m k) ks

-- ── the single calls that they stand for ──

-- a record call for each block
abbrev pub records : List Sent → List Call
records [] = []
records (x ∷ xs) = record_block x.kind x.sent ∷ records xs

-- a stream call stands for a record call for each block that it takes
abbrev pub singles : List ℕ → ShiftCall → List Call
singles m (single k) = k ∷ []
singles m (stream s) = records (first_blocks (record_stream m s).taken s 0)

-- the single calls of a list
abbrev pub flattened : List ℕ → List ShiftCall → List Call
flattened m [] = []
flattened m (k ∷ ks) = singles m k ++ flattened (memory_after_shift m k) ks

-- ── recordings ──

-- what a caller can hand in: bytes and numbers of 64 bits
abbrev pub ShiftFits : ShiftCall → Type 0
ShiftFits (single k) = CallFits k
ShiftFits (stream s) = (x : ℕ) → Memᴰ x s → x < 256

-- a finished recording with stream calls among its calls
pub record Shift : Type 0 where
  pub memory : List ℕ
  pub capacity : Capacity
  pub calls : List ShiftCall
  pub opened : (open_memory memory capacity).refusal ≡ 0
  pub fit : (k : ShiftCall) → Memᴰ k calls → ShiftFits k
  pub finished : Memᴰ (single finish) calls

-- the memory after the opening and all calls
abbrev pub shift_final : Shift → List ℕ
shift_final r = memory_after_shifts (open_memory r.memory r.capacity).memory r.calls

-- its single calls are a recording, of which demand 3 holds as it stands, and they leave the same memory
pub record AsSingles (r : Shift) : Type 0 where
  pub recording : Recording
  pub same_memory : recording.memory ≡ r.memory
  pub same_capacity : recording.capacity ≡ r.capacity
  pub same_calls : recording.calls ≡ flattened (open_memory r.memory r.capacity).memory r.calls
  pub same_final : final recording ≡ shift_final r

-- ── what a reader may conclude ──

abbrev pub Flattens : Type 0
Flattens = (r : Shift) → AsSingles r

-- rows are exactly the longest runs of what was taken, by streams too
abbrev pub ShiftRowsExact : Type 0
ShiftRowsExact =
    (r : Shift) (w : AsSingles r) → (q : List ℕ) → Query q → 0 < length q → (scratch : ℕ) (lent : List Row)
    → (search_memory (shift_final r) q scratch lent).refusal ≡ 0 → (rs : List Location) × HandsOver (search_memory (shift_final r) q scratch lent) rs × Exactly w.recording q rs

-- the image that is saved after a stream call and a finish is the one that single records give
abbrev pub StreamImage : Type 0
StreamImage =
    (m s buffer : List ℕ)
    → save_memory (finish_memory (record_stream m s).memory).memory buffer ≡ save_memory (finish_memory (memory_after_all m (singles m (stream s)))).memory buffer
