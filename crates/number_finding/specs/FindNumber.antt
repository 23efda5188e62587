-- What a search for a typed number finds, as a function on memory. Assumes nothing.
use Rattle.std.specs.Prelude.{ℕ, ◌/◌, List}
use Rattle.definitions.specs.Rows.{rows}
use Rattle.definitions.specs.Causes.{first_cause}
use Rattle.definitions.specs.Calls.{search_number_checks}
use Rattle.check_character.specs.Number.{number_in, right}
use Rattle.index_memory.specs.Index.{Index, standing_of, read_index}
use Rattle.finding.specs.Find.{RowsFound, rows_or_refused}

-- the number without its check character is the query; a place takes 24 bytes of scratch
abbrev pub find_number_by : Index → List ℕ → ℕ → ℕ → RowsFound
find_number_by i typed scratch room =
    rows_or_refused (first_cause (search_number_checks (standing_of i) (right typed) (number_in typed) (scratch / 24) room)) (rows (standing_of i).pieces (number_in typed))

-- scratch has so many bytes, and so many rows have room
unfoldable pub find_number_memory : List ℕ → List ℕ → ℕ → ℕ → RowsFound
find_number_memory m typed scratch room = find_number_by (read_index m) typed scratch room
