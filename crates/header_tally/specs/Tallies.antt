-- A header with another tally. Assumes nothing.
use Rattle.std.specs.Prelude.{ℕ}
use Rattle.tally.specs.declared.Tally.{Tally}
use Rattle.memory_header.specs.declared.Header as C

-- a header of the same capacity with this tally and payload
abbrev pub with_tally : C.Header → Tally → ℕ → C.Header
with_tally h t payload = record { capacity = h.capacity; tally = t; payload = payload }
