-- Demand 3: whole lists of calls on lent memory. Assumes nothing.
use Rattle.std.specs.Prelude.{ℕ, ◌≤◌, ◌<◌, ◌≡◌, ◌⊎◌, ◌↔◌, length, take}
use mathlib.Core.List.{List, [], ◌∷◌, Memᴰ}
use Rattle.definitions.specs.Location.{Location, Sorted}
use Rattle.definitions.specs.Blocks.{Block}
use Rattle.definitions.specs.Rows.{Before}
use Rattle.definitions.specs.Runs.{LongestRun, Consistent, Query, SameHeld}
use Rattle.definitions.specs.Causes.{number, scratch_too_small, too_many_rows}
use Rattle.definitions.specs.Calls.{Capacity, last_number}
use Rattle.definitions.specs.Recording.{Call, record_block, finish, search, taken, Finished}
use Rattle.memory_header.specs.Opening.{open_memory}
use Rattle.recording.specs.Record.{record_memory}
use Rattle.rows.specs.declared.Row.{Row}
use Rattle.rows.specs.Rows.{rows_of}
use Rattle.string_index.specs.Finish.{finish_memory}
use Rattle.handing_over.specs.Search.{Found, search_memory}

-- the memory that a call leaves; a search changes nothing in it
abbrev pub memory_after : List ℕ → Call → List ℕ
memory_after m (record_block kind b) = (record_memory m kind b).memory
memory_after m finish = (finish_memory m).memory
memory_after m (search q scratch room) = m

-- each call gets the memory as the call before left it
abbrev pub memory_after_all : List ℕ → List Call → List ℕ
memory_after_all m [] = m
memory_after_all m (k ∷ ks) = memory_after_all (memory_after m k) ks

-- what a caller can hand in: bytes and numbers of 64 bits
pub record Fits (b : Block) : Type 0 where
  pub bytes : (x : ℕ) → Memᴰ x b.bytes → x < 256
  pub address : b.at.address ≤ last_number
  pub created : b.at.created ≤ last_number
  pub destroyed : b.at.destroyed ≤ last_number

abbrev pub CallFits : Call → Type 0
CallFits (record_block kind b) = Fits b
CallFits finish = Unit {0}
CallFits (search q scratch room) = Unit {0}

-- a finished recording: an opening that is not refused, calls with a finish among them
pub record Recording : Type 0 where
  pub memory : List ℕ
  pub capacity : Capacity
  pub calls : List Call
  pub opened : (open_memory memory capacity).refusal ≡ 0
  pub fit : (k : Call) → Memᴰ k calls → CallFits k
  pub finished : Finished calls

-- the memory after the opening and all calls
abbrev pub final : Recording → List ℕ
final r = memory_after_all (open_memory r.memory r.capacity).memory r.calls

abbrev pub taken_in : Recording → List Block
taken_in r = taken r.capacity r.calls

-- a search after the recording, with scratch of so many bytes and these rows lent
abbrev pub searched : Recording → List ℕ → ℕ → List Row → Found
searched r q scratch lent = search_memory (final r) q scratch lent

-- the records that a search hands over
pub record HandsOver (f : Found) (rs : List Location) : Type 0 where
  pub count : f.count ≡ length rs
  pub records : take (length rs) f.rows ≡ rows_of rs

-- the rows that it hands over are exactly the longest runs of what was taken, each once, by address and then first tick
pub record Exactly (r : Recording) (q : List ℕ) (rs : List Location) : Type 0 where
  pub runs : (l : Location) → Memᴰ l rs ↔ LongestRun (taken_in r) q l
  pub in_order : Sorted Before rs

-- wherever it answers, a search of a non-empty query of up to 256 bytes hands over exactly the longest runs
abbrev pub RowsExact : Recording → Type 0
RowsExact r = (q : List ℕ) → Query q → 0 < length q → (scratch : ℕ) (lent : List Row) → (searched r q scratch lent).refusal ≡ 0 → (rs : List Location) × HandsOver (searched r q scratch lent) rs × Exactly r q rs

-- an empty query has none
abbrev pub EmptyQuery : Recording → Type 0
EmptyQuery r = (scratch : ℕ) (lent : List Row) → ((searched r [] scratch lent).refusal ≡ 0) × ((searched r [] scratch lent).count ≡ 0) × ((searched r [] scratch lent).rows ≡ lent)

-- a search of up to 256 bytes is refused by nothing but 10 and 11
abbrev pub OnlyBuffers : Recording → Type 0
OnlyBuffers r = (q : List ℕ) → Query q → (scratch : ℕ) (lent : List Row) → ((searched r q scratch lent).refusal ≡ 0) ⊎ (((searched r q scratch lent).refusal ≡ number scratch_too_small) ⊎ ((searched r q scratch lent).refusal ≡ number too_many_rows))

-- there are sizes of buffers with which it answers, and larger ones answer too
abbrev pub Answers : Recording → Type 0
Answers r = (q : List ℕ) → Query q → (bytes : ℕ) × (room : ℕ) × ((scratch : ℕ) (lent : List Row) → bytes ≤ scratch → room ≤ length lent → (searched r q scratch lent).refusal ≡ 0)

-- the rows of two recordings are the same: row for row, wherever both searches answer
abbrev pub SameAnswers : Recording → Recording → Type 0
SameAnswers r r' = (q : List ℕ) → Query q → (scratch scratch' : ℕ) (lent lent' : List Row) → (searched r q scratch lent).refusal ≡ 0 → (searched r' q scratch' lent').refusal ≡ 0 → (rs : List Location) × HandsOver (searched r q scratch lent) rs × HandsOver (searched r' q scratch' lent') rs

-- demand 3
pub record Demand3 : Type 1 where
  -- no two of the blocks that were taken share a byte address and a live tick
  pub consistent : (r : Recording) → Consistent (taken_in r)
  pub rows_exact : (r : Recording) → RowsExact r
  pub empty_query : (r : Recording) → EmptyQuery r
  pub only_buffers : (r : Recording) → OnlyBuffers r
  pub answers : (r : Recording) → Answers r
  pub same_rows : (r r' : Recording) → SameAnswers r r' ↔ SameHeld (taken_in r) (taken_in r')
