-- An entry that a block strikes, by its number. Assumes nothing.
use Prim.Native.Nat.{ℕ, zero, suc, ◌+◌, ◌-◌, ◌≤◌, ◌<◌}
use native.Mathlib.Omega.{arith}
use mathlib.Core.Path.{◌≡◌, refl, subst}
use mathlib.Core.Bool.{Bool, true, ◌&&◌, ◌||◌}
use mathlib.Core.Logic.{◌⊎◌, inl, inr, ◌↔◌}
use lib.Dec.{ltb}
use borrow.Author.Tests.{ltb-true, lt-ltb}
use Rattle.std.proofs.lemmas.Bool.{cases_lt}
use Rattle.definitions.specs.Location.{Location, meets}
use Rattle.definitions.proofs.Tests.{both, and_true, either, or_left, or_right, not_both}
use Rattle.conflicts.proofs.Together.{Together, meets_is}
use Rattle.lined_locations.specs.declared.Line.{Line}
use Rattle.lined_locations.specs.Line.{location_of}
use Rattle.certificate.specs.Entries.{piece_end}
use Rattle.clashing.specs.Strikes.{strikes}

module _ (v : Line) (x : Location) where
  -- an entry from g on and below q that lives together with x and goes beyond its address
  pub record Struck (g q : ℕ) : Type 0 where
    pub index : ℕ
    pub low : g ≤ index
    pub high : index < q
    pub together : Together x (location_of v index)
    pub beyond : x.address < piece_end v index

  -- the test of one entry
  abbrev one : ℕ → Bool
  one i = meets x (location_of v i) && ltb x.address (piece_end v i)

  struck_is : (q k i : ℕ) → q ≡ i + k → strikes v k i x ≡ true ↔ Struck i q
  unfolding strikes
  struck_is q zero i h = ((λ e. absurd (not_both refl e)), λ w. absurd (omega (arith, w.low, w.high)))
  struck_is q (suc k) i h = go (struck_is q k (suc i) (omega arith))
    where
      to : (strikes v k (suc i) x ≡ true ↔ Struck (suc i) q) → (one i ≡ true) ⊎ (strikes v k (suc i) x ≡ true) → Struck i q
      to ih (inl e) =
          let b : (meets x (location_of v i) ≡ true) × (ltb x.address (piece_end v i) ≡ true) = both (meets x (location_of v i)) (ltb x.address (piece_end v i)) e in
          record { index = i; low = omega arith; high = omega arith; together = (meets_is x (location_of v i)).0 b.0; beyond = ltb-true x.address (piece_end v i) b.1 }
      to ih (inr e) = let w : Struck (suc i) q = ih.0 e in record { index = w.index; low = omega (arith, w.low); high = w.high; together = w.together; beyond = w.beyond }

      fro : (strikes v k (suc i) x ≡ true ↔ Struck (suc i) q) → (w : Struck i q) → (i < w.index) ⊎ (w.index ≤ i) → (one i || strikes v k (suc i) x) ≡ true
      fro ih w (inl l) = or_right (one i) (ih.1 (record { index = w.index; low = l; high = w.high; together = w.together; beyond = w.beyond }))
      fro ih w (inr l) =
          let z : w.index ≡ i = omega (arith, w.low) in
          or_left (strikes v k (suc i) x) (subst (λ (j : ℕ). one j ≡ true) z (and_true ((meets_is x (location_of v w.index)).1 w.together) (lt-ltb x.address (piece_end v w.index) w.beyond)))

      go : (strikes v k (suc i) x ≡ true ↔ Struck (suc i) q) → (one i || strikes v k (suc i) x) ≡ true ↔ Struck i q
      go ih = ((λ e. to ih (either (one i) (strikes v k (suc i) x) e)), λ w. fro ih w (cases_lt i w.index))

  pub strikes_is : (g q : ℕ) → g ≤ q → strikes v (q - g) g x ≡ true ↔ Struck g q
  strikes_is g q h = struck_is q (q - g) g (omega arith)
