-- What every call promises where it is refused. Assumes nothing.
use Rattle.std.specs.Prelude.{ℕ, ◌≡◌, List}
use Rattle.definitions.specs.Blocks.{Block}
use Rattle.definitions.specs.Calls.{Capacity}
use Rattle.memory_header.specs.Opening.{open_memory}
use Rattle.recording.specs.Record.{record_memory}
use Rattle.stream_recording.specs.Stream.{record_stream}
use Rattle.rows.specs.declared.Row.{Row}
use Rattle.saving.specs.Saving.{save_memory, load_memory}
use Rattle.string_index.specs.Finish.{finish_memory}
use Rattle.handing_over.specs.Search.{search_memory, search_number_memory}

-- a call that is refused leaves the lent memory, the lent rows and the save buffer as they were
pub record RefusedLeaves : Type 0 where
  pub open_leaves : (m : List ℕ) (c : Capacity) → ((open_memory m c).refusal ≡ 0 → ⊥) → (open_memory m c).memory ≡ m
  pub record_leaves : (m : List ℕ) (kind : ℕ) (b : Block) → ((record_memory m kind b).refusal ≡ 0 → ⊥) → (record_memory m kind b).memory ≡ m
  -- a stream keeps the blocks before its refusal; with none before it, the memory is as it was
  pub stream_leaves : (m s : List ℕ) → (record_stream m s).taken ≡ 0 → (record_stream m s).memory ≡ m
  pub finish_leaves : (m : List ℕ) → ((finish_memory m).refusal ≡ 0 → ⊥) → (finish_memory m).memory ≡ m
  pub search_leaves : (m q : List ℕ) (scratch : ℕ) (lent : List Row) → ((search_memory m q scratch lent).refusal ≡ 0 → ⊥) → (search_memory m q scratch lent).rows ≡ lent
  pub search_number_leaves : (m typed : List ℕ) (scratch : ℕ) (lent : List Row) → ((search_number_memory m typed scratch lent).refusal ≡ 0 → ⊥) → (search_number_memory m typed scratch lent).rows ≡ lent
  pub save_leaves : (m buffer : List ℕ) → ((save_memory m buffer).refusal ≡ 0 → ⊥) → (save_memory m buffer).buffer ≡ buffer
  pub load_leaves : (m s : List ℕ) → ((load_memory m s).refusal ≡ 0 → ⊥) → (load_memory m s).memory ≡ m
