-- Bytes that stand in a list from an index on. Assumes nothing.
use Rattle.std.specs.Prelude.{ℕ, ◌+◌, ◌≡◌, Bool, true, ◌&&◌, List, [], ◌∷◌, get_or, eqb}

-- the bytes xs stand in s from `at` on
unfoldable pub Holds : List ℕ → ℕ → List ℕ → Type 0
Holds s at [] = Unit
Holds s at (x ∷ xs) = (get_or s at 0 ≡ x) × Holds s (at + 1) xs

-- the same as a test
unfoldable pub stands : List ℕ → ℕ → List ℕ → Bool
stands s at [] = true
stands s at (x ∷ xs) = eqb (get_or s at 0) x && stands s (at + 1) xs
