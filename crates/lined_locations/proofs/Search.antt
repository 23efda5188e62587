-- The search by halves in entries that are in line: its point is the first that does not come before address b and tick c. Assumes nothing.
use Prim.Native.Nat.{ℕ, ◌-◌, ◌≤◌}
use mathlib.Core.Path.{◌≡◌}
use mathlib.Core.Bool.{Bool}
use Rattle.halving.specs.Halving.{Parts, PointOf}
use Rattle.definitions.specs.Location.{Location}
use Rattle.conflicts.specs.Lined.{earlier, first_from, Lined}
use Rattle.conflicts.proofs.Line.{sooner, first_from_one}

module _ (n : ℕ) (at : ℕ → Location) (i b c : ℕ) where
  abbrev pub is_earlier : ℕ → Bool
  is_earlier j = earlier (at j) b c

  pub earlier_parts : Lined n at → Parts i n is_earlier
  earlier_parts s j k h l m e = sooner n at s b c j k l m e

  pub first_is : (q : ℕ) → (i ≤ q) × (q ≤ n) → PointOf i n is_earlier q → q ≡ first_from at (n - i) i b c
  first_is q w p = first_from_one n at i b c q (record { low = w.0; high = w.1; before = p.holds; after = p.ends })
