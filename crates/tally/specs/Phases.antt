-- The phases of an index by their numbers. Assumes nothing.
use Rattle.std.specs.Prelude.{ℕ, ◌≡◌, ◌<◌, Result, Ok, Err}
use Rattle.tally.specs.declared.Phase.{Phase}
use Rattle.tally.specs.declared.Phase.TheVariants as P
use Rattle.tally.specs.declared.UnknownPhase.{UnknownPhase}

-- as they stand in the header
abbrev pub phase_number : Phase → ℕ
phase_number P.Open = 0
phase_number P.Finished = 1

-- a number is that of the phase, or over the last: then it is given back with the error
abbrev pub Decodes : ℕ → Result Phase UnknownPhase → Type 0
Decodes n (Ok p) = phase_number p ≡ n
Decodes n (Err e) = (e.0 ≡ n) × (1 < n)
