-- The bytes of recording 11. Assumes nothing.
use Rattle.std.specs.Prelude.{ℕ, zero, suc, ◌%◌, List, [], ◌∷◌, ◌++◌}

-- n bytes that rise by 1 from 0 on, and begin anew after 250
unfoldable pub counting_up : ℕ → List ℕ
counting_up zero = []
counting_up (suc n) = counting_up n ++ (n % 251 ∷ [])
