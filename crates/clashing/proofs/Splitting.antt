-- Entries in line, split at an address. Assumes nothing.
use Prim.Native.Nat.{ℕ, ◌-◌, ◌≤◌, ◌<◌}
use native.Mathlib.Omega.{arith}
use mathlib.Core.Path.{◌≡◌, sym, subst}
use mathlib.Core.Bool.{true, false}
use mathlib.Core.Logic.{◌⊎◌, inl, inr}
use Rattle.std.proofs.lemmas.Bool.{cases_lt}
use Rattle.definitions.specs.Location.{Location}
use Rattle.conflicts.specs.Lined.{first_from, Lined}
use Rattle.conflicts.specs.Promises.{FirstFrom}
use Rattle.conflicts.proofs.Line.{Earlier, earlier_told, first_from_is}

-- the entries from i on and before q are at addresses below a, those from q on and below n are not
pub record Split (n : ℕ) (at : ℕ → Location) (i a q : ℕ) : Type 0 where
  pub low : i ≤ q
  pub high : q ≤ n
  pub below : (j : ℕ) → i ≤ j → j < q → (at j).address < a
  pub above : (j : ℕ) → q ≤ j → j < n → a ≤ (at j).address

pub split_at : (n : ℕ) (at : ℕ → Location) → Lined n at → (i a q : ℕ) → i ≤ n → q ≡ first_from at (n - i) i a 0 → Split n at i a q
split_at n at s i a q h e = record {
  low = f.low;
  high = f.high;
  below = λ j k l. under j (earlier_told (at j) a 0 true (f.before j k l));
  above = λ j k l. (earlier_told (at j) a 0 false (f.after j k l)).0;
}
  where
    f : FirstFrom n at i a 0 q
    f = subst (λ (k : ℕ). FirstFrom n at i a 0 k) (sym e) (first_from_is n at s i a 0 h)

    under : (j : ℕ) → Earlier true (at j) a 0 → (at j).address < a
    under j w = go (cases_lt (at j).address a)
      where
        go : ((at j).address < a) ⊎ (a ≤ (at j).address) → (at j).address < a
        go (inl l) = l
        go (inr l) = absurd (omega (arith, w.1 (omega (arith, w.0))))
