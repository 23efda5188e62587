-- What finding an entry of a table by its byte says. Assumes nothing.
use Rattle.std.specs.Prelude.{ℕ, ◌+◌, ◌*◌, ◌≤◌, ◌<◌, List, get_or}

-- the lower of two, if it is not below low
pub record Nearer (low least b r : ℕ) : Type 0 where
  pub from : low ≤ r
  pub lower : r ≤ least
  pub kept : low ≤ b → r ≤ b

-- no entry of a table has a byte from low on and below r
pub record Least (s : List ℕ) (base n low r : ℕ) : Type 0 where
  pub from : low ≤ r
  pub most : r ≤ 255
  pub none : (j : ℕ) → j < n → low ≤ get_or s (base + j * 9) 0 → r ≤ get_or s (base + j * 9) 0
