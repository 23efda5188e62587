-- What more pieces do to a tally. Assumes nothing.
use Prim.Native.Nat.{ℕ, ◌+◌}
use native.Mathlib.Omega.{arith}
use mathlib.Core.Path.{◌≡◌}
use mathlib.Core.List.{List, [], ◌∷◌, ◌++◌}
use Rattle.definitions.specs.Blocks.{Piece, node_charge, entry_charge, charge, nodes_tallied, entries_tallied}

-- the charges of two lists are the sum of theirs
pub charge_append : (f : ℕ → ℕ) (xs ys : List Piece) → charge f (xs ++ ys) ≡ charge f xs + charge f ys
charge_append f [] ys = omega arith
charge_append f (p ∷ ps) ys = omega (arith, charge_append f ps ys)

-- pieces behind others add what they charge
pub nodes_with : (ps new : List Piece) → nodes_tallied (ps ++ new) ≡ nodes_tallied ps + charge node_charge new
nodes_with ps new = omega (arith, charge_append node_charge ps new)

pub entries_with : (ps new : List Piece) → entries_tallied (ps ++ new) ≡ entries_tallied ps + charge entry_charge new
entries_with ps new = charge_append entry_charge ps new
