-- Where a step through a stream leads. Assumes nothing.
use Rattle.std.specs.Prelude.{ℕ, ◌≤◌, ◌<◌, List, length, Option, Some, None, Result, Ok, Err}
use Rattle.definitions.specs.declared.refusal.Refusal.{Refusal}

-- behind the cursor, and within the stream
abbrev pub Onward : List ℕ → ℕ → Result (Option ℕ) Refusal → Type 0
Onward s at (Ok (Some next)) = (at < next) × (next ≤ length s)
Onward s at (Ok None) = Unit {0}
Onward s at (Err r) = Unit {0}
