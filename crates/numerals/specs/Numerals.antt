-- Words and numbers in the text of a line, read from its front. Assumes nothing.
use Rattle.std.specs.Prelude.{ℕ, ◌+◌, ◌-◌, ◌*◌, Bool, true, false, cond, List, [], ◌∷◌, ltb, leb, eqb}
use Rattle.std.proofs.Math.Option.{Option, none, some}
use Rattle.definitions.specs.Calls.{last_number}

-- whether a text begins with a word
unfoldable pub starts : List ℕ → List ℕ → Bool
starts [] l = true
starts (w ∷ ws) [] = false
starts (w ∷ ws) (b ∷ bs) = cond (eqb b w) (starts ws bs) false

-- a number, and the text behind its space
pub record Numeral : Type 0 where
  pub value : ℕ
  pub rest : List ℕ

-- 0 to 9
abbrev pub is_digit : ℕ → Bool
is_digit b = cond (ltb b 48) false (leb b 57)

-- a space ends a number
unfoldable pub space_ends : ℕ → List ℕ → Option Numeral
space_ends x [] = none
space_ends x (b ∷ bs) = cond (eqb b 32) (some (record { value = x; rest = bs })) none

-- the digits from here on behind those of x; a number over the last one is none
unfoldable pub digits_from : ℕ → List ℕ → Option Numeral
digits_from x [] = none
digits_from x (b ∷ bs) =
    cond (is_digit b)
    (cond (ltb last_number (x * 10 + (b - 48))) none (digits_from (x * 10 + (b - 48)) bs))
    (space_ends x (b ∷ bs))

-- a zero stands alone
unfoldable pub number : List ℕ → Option Numeral
number [] = none
number (b ∷ bs) = cond (eqb b 48) (space_ends 0 bs) (cond (is_digit b) (digits_from 0 (b ∷ bs)) none)
