-- Both searches as functions on memory, of a query and of a typed number: the answer, and each lent slice afterwards. Assumes nothing.
use Rattle.std.specs.Prelude.{ℕ, ◌/◌, List, length}
use Rattle.std.proofs.Math.Option.{Option, none, some}
use Rattle.definitions.specs.Location.{Location}
use Rattle.definitions.specs.Rows.{rows}
use Rattle.definitions.specs.Causes.{Cause, number, first_cause}
use Rattle.definitions.specs.Calls.{search_checks, search_number_checks}
use Rattle.check_character.specs.Number.{number_in, right}
use Rattle.rows.specs.declared.Row.{Row}
use Rattle.rows.specs.Rows.{rows_over}
use Rattle.index_memory.specs.Index.{Index, standing_of, read_index}

-- a refusal's number (0 for none), how many rows there are, and the lent rows afterwards
pub record Found : Type 0 where
  pub refusal : ℕ
  pub count : ℕ
  pub rows : List Row

-- the rows are handed over in the first of those lent, or all is left
abbrev pub found_or_refused : Option Cause → List Location → List Row → Found
found_or_refused none rs lent = record { refusal = 0; count = length rs; rows = rows_over rs lent }
found_or_refused (some c) rs lent = record { refusal = number c; count = 0; rows = lent }

-- a place takes 24 bytes of scratch
abbrev pub search_by : Index → List ℕ → ℕ → List Row → Found
search_by i q scratch lent = found_or_refused (first_cause (search_checks (standing_of i) q (scratch / 24) (length lent))) (rows (standing_of i).pieces q) lent

-- scratch has so many bytes
unfoldable pub search_memory : List ℕ → List ℕ → ℕ → List Row → Found
search_memory m q scratch lent = search_by (read_index m) q scratch lent

-- the number without its check character is the query
abbrev pub search_number_by : Index → List ℕ → ℕ → List Row → Found
search_number_by i typed scratch lent =
    found_or_refused (first_cause (search_number_checks (standing_of i) (right typed) (number_in typed) (scratch / 24) (length lent))) (rows (standing_of i).pieces (number_in typed)) lent

unfoldable pub search_number_memory : List ℕ → List ℕ → ℕ → List Row → Found
search_number_memory m typed scratch lent = search_number_by (read_index m) typed scratch lent
