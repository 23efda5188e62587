-- What a search answers: the number of a refusal, or rows at the front of scratch. Assumes nothing.
use Rattle.std.specs.Prelude.{ℕ, ◌*◌, ◌≤◌, ◌≡◌, cond, List, [], length, ltb, Result, Ok, Err}
use Rattle.definitions.specs.Location.{Location, locations_in}
use Rattle.definitions.specs.Causes.{number, too_many_rows}
use Rattle.definitions.specs.declared.refusal.Refusal.{Refusal}
use Rattle.definitions.specs.Refusals.{number_of}

-- what a search finds where so many rows have room: the number of a refusal (0 for none), and the rows
pub record RowsFound : Type 0 where
  pub refusal : ℕ
  pub rows : List Location

-- a refusal has no rows
abbrev pub refused : ℕ → RowsFound
refused n = record { refusal = n; rows = [] }

-- what the code says of it: the number of the refusal, and how many rows there are
pub record Finding : Type 0 where
  pub refusal : ℕ
  pub count : ℕ

abbrev pub finding_of : RowsFound → Finding
finding_of o = record { refusal = o.refusal; count = length o.rows }

abbrev pub finding_in : Result ℕ Refusal → Finding
finding_in (Ok count) = record { refusal = 0; count = count }
finding_in (Err r) = record { refusal = number_of r; count = 0 }

-- they stand at the front of scratch s, 24 bytes each
pub record AtFront (rs : List Location) (s : List ℕ) : Type 0 where
  pub within : length rs * 24 ≤ length s
  pub stand : locations_in s (length rs) 0 ≡ rs

-- more rows than have room are refused
unfoldable pub rows_answer : List Location → ℕ → RowsFound
rows_answer rs room = cond (ltb room (length rs)) (refused (number too_many_rows)) (record { refusal = 0; rows = rs })
