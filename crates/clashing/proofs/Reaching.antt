-- Entries at one address, from the last back: those before one that has ended have ended too. Assumes nothing.
use Prim.Native.Nat.{ℕ, ◌-◌, ◌≤◌, ◌<◌}
use native.Mathlib.Omega.{arith}
use mathlib.Core.Path.{◌≡◌, sym, subst}
use mathlib.Core.Bool.{true, false}
use mathlib.Core.Logic.{◌⊎◌, inl, inr}
use Rattle.std.proofs.lemmas.Bool.{cases_lt}
use Rattle.definitions.specs.Location.{Location}
use Rattle.definitions.proofs.Tests.{is_false, same_test}
use Rattle.conflicts.specs.Lined.{Lined}
use Rattle.conflicts.proofs.Line.{upto}
use Rattle.lined_locations.specs.declared.Line.{Line}
use Rattle.lined_locations.specs.Line.{location_of}
use Rattle.certificate.specs.Entries.{piece_end}
use Rattle.clashing.specs.Strikes.{strikes, OneAddress}
use Rattle.clashing.proofs.Striking.{Struck, strikes_is}

module _ (v : Line) (x : Location) (g : ℕ) where
  -- nothing is left
  pub reach_done : (k : ℕ) → g ≤ k → k ≤ g → false ≡ strikes v (k - g) g x
  reach_done k h l = sym (is_false (strikes v (k - g) g x) (λ e. none ((strikes_is v x g k h).0 e)))
    where
      none : Struck v x g k → ⊥
      none w = omega (arith, w.low, w.high)

  module _ (q k : ℕ) (a : OneAddress v g q x) (s : Lined v.count (location_of v)) (h : g < k) (l : k ≤ q) where
    -- the last has ended when x is created
    pub reach_ended : (location_of v (k - 1)).destroyed ≤ x.created → false ≡ strikes v (k - g) g x
    reach_ended d = sym (is_false (strikes v (k - g) g x) (λ e. none ((strikes_is v x g k (omega arith)).0 e)))
      where
        none : Struck v x g k → ⊥
        none w =
            omega (
              arith,
              d,
              w.together.left,
              (upto v.count (location_of v) s w.index (k - 1) (omega (arith, w.high)) (omega (arith, a.high))).by_destroyed (a.same w.index (k - 1) w.low (omega (arith, w.high)) (omega arith) (omega arith)),
            )

    -- the last lives together with x and goes beyond its address
    pub reach_found : x.created < (location_of v (k - 1)).destroyed → x.address < piece_end v (k - 1) → true ≡ strikes v (k - g) g x
    reach_found d b = sym ((strikes_is v x g k (omega arith)).1 (record {
      index = k - 1;
      low = omega arith;
      high = omega arith;
      together = record { left = d; right = a.before (k - 1) (omega arith) (omega arith) };
      beyond = b;
    }))

  -- the last does not go beyond its address
  pub reach_on : (k : ℕ) → g < k → piece_end v (k - 1) ≤ x.address → strikes v (k - 1 - g) g x ≡ strikes v (k - g) g x
  reach_on k h b = same_test (strikes v (k - 1 - g) g x) (strikes v (k - g) g x)
      (λ e. (strikes_is v x g k (omega arith)).1 (back ((strikes_is v x g (k - 1) (omega arith)).0 e)))
      (λ e. (strikes_is v x g (k - 1) (omega arith)).1 (on ((strikes_is v x g k (omega arith)).0 e)))
    where
      back : Struck v x g (k - 1) → Struck v x g k
      back w = record { index = w.index; low = w.low; high = omega (arith, w.high); together = w.together; beyond = w.beyond }

      on : Struck v x g k → Struck v x g (k - 1)
      on w = go (cases_lt w.index (k - 1))
        where
          go : (w.index < k - 1) ⊎ (k - 1 ≤ w.index) → Struck v x g (k - 1)
          go (inl l) = record { index = w.index; low = w.low; high = l; together = w.together; beyond = w.beyond }
          go (inr l) = absurd (let z : w.index ≡ k - 1 = omega (arith, w.high) in omega (arith, subst (λ (j : ℕ). x.address < piece_end v j) z w.beyond))
