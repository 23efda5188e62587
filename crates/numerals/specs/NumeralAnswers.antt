-- The code's answers on numbers as what the definitions read. Assumes nothing.
use Rattle.std.specs.Prelude.{ℕ, List, drop, Option, Some, None}
use Rattle.std.proofs.Math.Option as M
use Rattle.numerals.specs.Numerals.{Numeral}

-- a number that was read, and the part of the line behind it
abbrev pub numeral_of : List ℕ → Option (ℕ × ℕ) → M.Option Numeral
numeral_of l (Some (x, n)) = M.some (record { value = x; rest = drop n l })
numeral_of l None = M.none
