-- The order of locations, by what is known of the fields: the first that differs decides. Assumes nothing.
use Prim.Native.Nat.{Ordering}
use Prim.Native.Nat.{ℕ, zero, suc, ◌<◌, compare}
use Prim.Native.Nat.compare
use native.Mathlib.Nat.{not-suc-le-zero}
use native.Mathlib.Omega.{arith}
use mathlib.Core.Path.{◌≡◌, ◌∙◌}
use mathlib.Core.Bool.{true}
use Rattle.definitions.specs.Location.{Location, order}
use Rattle.definitions.specs.Location.{is_lt}

-- `compare`, by the order of two numbers
compare_lt : (a b : ℕ) → a < b → compare a b ≡ Ordering.lt
compare_lt a zero h = absurd (not-suc-le-zero h)
compare_lt zero (suc b) h = compare.zero-suc b
compare_lt (suc a) (suc b) h = compare.suc-suc a b ∙ compare_lt a b (omega arith)

module _ (l m : Location) where
  pub by_address_lt : l.address < m.address → true ≡ is_lt (order l m)
  by_address_lt h = rw (compare_lt l.address m.address h)
