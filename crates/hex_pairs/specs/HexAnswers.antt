-- The code's answers on bytes as what the definitions read. Assumes nothing.
use Rattle.std.specs.Prelude.{ℕ, zero, suc, ◌+◌, List, [], ◌∷◌, length, get_or, Option, Some, None}
use Rattle.std.specs.Option.{unwrap_or}
use Rattle.std.proofs.Math.Option as M
use Rattle.hex_pairs.specs.HexBytes.{pair}

-- how many bytes were read, n of them before
abbrev pub counted : ℕ → M.Option (List ℕ) → Option ℕ
counted n M.none = None
counted n (M.some bs) = Some (n + length bs)

-- the bytes of n pairs of digits from index `at` on; a pair that has no byte gives 0
unfoldable pub pairs_at : List ℕ → ℕ → ℕ → List ℕ
pairs_at l zero at = []
pairs_at l (suc n) at = unwrap_or (pair (get_or l at 0) (get_or l (at + 1) 0)) 0 ∷ pairs_at l n (at + 2)
