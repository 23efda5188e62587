-- What pieces charge, as numbers and bounds. Assumes nothing.
use Prim.Native.Nat.{ℕ, zero, suc, ◌+◌, ◌*◌, ◌≤◌, max}
use native.Mathlib.Nat.{mul-le-mul_right}
use native.Mathlib.Omega.{arith}
use mathlib.Core.Path.{◌≡◌, refl}
use mathlib.Core.List.{List, [], ◌∷◌}
use lib.ListN.{length}
use Rattle.definitions.specs.Blocks.{Piece, node_charge, entry_charge, charge}

-- a piece charges 136 nodes at most
pub square_bound : (m : ℕ) → m ≤ 16 → m * (m + 1) ≤ 272
square_bound m h =
    let a : m * (m + 1) ≤ 16 * (m + 1) = mul-le-mul_right (m + 1) h in
    omega arith

pub node_bound : (m : ℕ) → m ≤ 16 → node_charge m ≤ 136
node_bound m h = omega (arith, square_bound m h)

-- the entries of one piece, as one number
pub entry_max : (m : ℕ) → entry_charge m ≡ max 1 (2 * m)
entry_max zero = refl
entry_max (suc m) = omega arith

-- each piece charges an entry at least
pub charge_count : (ps : List Piece) → length ps ≤ charge entry_charge ps
charge_count [] = omega arith
charge_count (p ∷ ps) = omega (arith, entry_max (length p.bytes), charge_count ps)
