-- Document 02, request 1: a stream recorded in one call, as a function on memory. Assumes nothing.
use Rattle.std.specs.Prelude.{ℕ, zero, suc, ◌+◌, cond, List, length, eqb}
use Rattle.std.proofs.Math.Option.{Option, none, some}
use Rattle.definitions.specs.BlockStream.{Read, block, nothing, refused, read_block}
use Rattle.definitions.specs.Causes.{Cause, number, first_cause}
use Rattle.definitions.specs.Calls.{stream_checks}
use Rattle.memory_header.specs.Opening.{Done}
use Rattle.index_memory.specs.Index.{Index, standing_of, read_index}
use Rattle.recording.specs.Record.{record_memory}

-- how many blocks were taken, the number of the refusal that stopped it, 0 where all were taken, and the memory afterwards
pub record StreamDone : Type 0 where
  pub taken : ℕ
  pub refusal : ℕ
  pub memory : List ℕ

-- no further block is taken
abbrev pub stopped : ℕ → List ℕ → StreamDone
stopped n m = record { taken = 0; refusal = n; memory = m }

-- so many blocks were taken before
abbrev pub behind : ℕ → StreamDone → StreamDone
behind k d = record { taken = k + d.taken; refusal = d.refusal; memory = d.memory }

-- a block that is taken is counted and the next one follows; the first refusal stops it
abbrev pub on_or_stopped : Done → (List ℕ → StreamDone) → StreamDone
on_or_stopped d rest = cond (eqb d.refusal 0) (behind 1 (rest d.memory)) (stopped d.refusal d.memory)

-- what was read is recorded
abbrev pub record_read : Read → List ℕ → (ℕ → List ℕ → StreamDone) → StreamDone
record_read (block kind b next) m rest = on_or_stopped (record_memory m kind b) (rest next)
record_read nothing m rest = stopped 0 m
record_read (refused n) m rest = stopped n m

-- the blocks from a cursor on, each read and recorded; a stream has fewer blocks than bytes, so the count does not run out
unfoldable pub record_from : (count : ℕ) → List ℕ → (at : ℕ) → List ℕ → StreamDone
record_from zero s at m = stopped 0 m
record_from (suc count) s at m = record_read (read_block s at) m (record_from count s)

-- a stream that meets 1 or 2 has no block taken
abbrev pub unless_stopped : Option Cause → List ℕ → StreamDone → StreamDone
unless_stopped none m d = d
unless_stopped (some c) m d = stopped (number c) m

-- 1 and 2 come first, even for an empty stream; then each block is read and recorded
abbrev pub stream_by : Index → List ℕ → List ℕ → StreamDone
stream_by i m s = unless_stopped (first_cause (stream_checks (standing_of i))) m (record_from (suc (length s)) s 0 m)

-- recording a stream into a memory
unfoldable pub record_stream : List ℕ → List ℕ → StreamDone
record_stream m s = stream_by (read_index m) m s
