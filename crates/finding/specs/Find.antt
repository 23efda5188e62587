-- What a search finds, as a function on memory. Assumes nothing.
use Rattle.std.specs.Prelude.{ℕ, ◌/◌, List}
use Rattle.std.proofs.Math.Option.{Option, none, some}
use Rattle.definitions.specs.Location.{Location}
use Rattle.definitions.specs.Rows.{rows}
use Rattle.definitions.specs.Causes.{Cause, number, first_cause}
use Rattle.definitions.specs.Calls.{search_checks}
use Rattle.row_buffer.specs.Answer.{refused}
use Rattle.index_memory.specs.Index.{Index, standing_of, read_index}
-- a refusal's number (0 for none), and the rows
pub use Rattle.row_buffer.specs.Answer.{RowsFound}

abbrev pub rows_or_refused : Option Cause → List Location → RowsFound
rows_or_refused none rs = record { refusal = 0; rows = rs }
rows_or_refused (some c) rs = refused (number c)

-- what a memory holds decides; a place takes 24 bytes of scratch
abbrev pub find_by : Index → List ℕ → ℕ → ℕ → RowsFound
find_by i q scratch room = rows_or_refused (first_cause (search_checks (standing_of i) q (scratch / 24) room)) (rows (standing_of i).pieces q)

-- scratch has so many bytes, and so many rows have room
unfoldable pub find_memory : List ℕ → List ℕ → ℕ → ℕ → RowsFound
find_memory m q scratch room = find_by (read_index m) q scratch room
