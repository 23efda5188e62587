-- An input as lines; the last may lack its newline. Assumes nothing.
use Rattle.std.specs.Prelude.{ℕ, ◌+◌, ◌≤◌, ◌<◌, ◌≡◌, cond, List, [], ◌∷◌, length, get_or, drop, eqb}

-- the bytes before the first newline
unfoldable pub first_line : List ℕ → List ℕ
first_line [] = []
first_line (b ∷ bs) = cond (eqb b 10) [] (b ∷ first_line bs)

-- where the line that begins at an index ends
unfoldable pub line_end : List ℕ → ℕ → ℕ
line_end s at = at + length (first_line (drop at s))

-- a byte in front of the first of lines
abbrev pub in_front : ℕ → List (List ℕ) → List (List ℕ)
in_front b [] = (b ∷ []) ∷ []
in_front b (l ∷ ls) = (b ∷ l) ∷ ls

-- the lines of an input, without their newlines
unfoldable pub lines_of : List ℕ → List (List ℕ)
lines_of [] = []
lines_of (b ∷ bs) = cond (eqb b 10) ([] ∷ lines_of bs) (in_front b (lines_of bs))

-- e is the first index from `at` on where a newline stands, or the input's length
pub record Ends (s : List ℕ) (at e : ℕ) : Type 0 where
  pub from : at ≤ e
  pub within : e ≤ length s
  pub newline : e < length s → get_or s e 0 ≡ 10
  pub first : (k : ℕ) → at ≤ k → k < e → get_or s k 0 ≡ 10 → ⊥
