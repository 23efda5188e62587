-- Pieces in line are free of conflicts exactly if none lives inside another. Assumes nothing.
use Prim.Native.Nat.{ℕ, ◌≤◌, ◌<◌}
use native.Mathlib.Omega.{arith}
use mathlib.Core.Path.{◌≡◌, ap}
use mathlib.Core.Bool.{true}
use mathlib.Core.Logic.{◌⊎◌, inl, inr}
use lib.ListN.{length}
use Rattle.std.proofs.lemmas.Bool.{cases_lt}
use Rattle.definitions.specs.Blocks.{Piece}
use Rattle.definitions.specs.Conflicts.{end, shares}
use Rattle.definitions.proofs.Tests.{is_false, not_both}
use Rattle.definitions.proofs.Sharing.{Sharing, shares_facts, facts_share}
use Rattle.conflicts.specs.Lined.{Lined}
use Rattle.conflicts.specs.Promises.{NoneInside, Numbered, LinedFree}
use Rattle.conflicts.proofs.Together.{Together, meets_not, not_meets}

module _ (n : ℕ) (e : ℕ → Piece) (s : Lined n (λ i. (e i).at)) (some : (i : ℕ) → i < n → 0 < length (e i).bytes) where
  -- pieces that live together, the second at an address inside the first
  share : (i j : ℕ) → i < n → j < n → (e i).at.address ≤ (e j).at.address → (e j).at.address < end (e i) → Together (e i).at (e j).at → shares (e i) (e j) ≡ true
  share i j h k l m t = facts_share (e i) (e j) (record {
    low = omega (arith, some i h);
    low' = omega (arith, some j k);
    across = omega (arith, some j k);
    across' = m;
    born = s.alive i h;
    born' = s.alive j k;
    before = t.left;
    before' = t.right;
  })

  -- what is at a lesser address has the lesser number
  number : (x y : ℕ) → x < n → (e x).at.address < (e y).at.address → x < y
  number x y h l = go (cases_lt x y)
    where
      go : (x < y) ⊎ (y ≤ x) → x < y
      go (inl k) = k
      go (inr k) = absurd (on (cases_lt y x))
        where
          on : (y < x) ⊎ (x ≤ y) → ⊥
          on (inl o) = omega (arith, (s.ahead y x o h).by_address)
          on (inr o) = let z : x ≡ y = omega arith in omega (arith, ap (λ i. (e i).at.address) z)

  inside : Numbered n e → NoneInside n e
  inside g x y h k l m = meets_not (e x).at (e y).at (λ t. not_both (g x y (number x y h l) k) (share x y h k (omega arith) m t))

  outside : NoneInside n e → Numbered n e
  outside c i j h k = is_false (shares (e i) (e j)) (λ f. go (shares_facts (e i) (e j) f) (cases_lt (e i).at.address (e j).at.address))
    where
      go : Sharing (e i) (e j) → ((e i).at.address < (e j).at.address) ⊎ ((e j).at.address ≤ (e i).at.address) → ⊥
      go f (inl l) = not_meets (e i).at (e j).at (c i j (omega arith) k l f.across') (record { left = f.before; right = f.before' })
      go f (inr l) = omega (arith, f.before', (s.ahead i j h k).by_life (omega (arith, (s.ahead i j h k).by_address)))

pub lined_free : LinedFree
lined_free n e s some = (inside n e s some, outside n e s some)
