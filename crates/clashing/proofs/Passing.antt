-- Entries at lesser addresses, address by address. Assumes nothing.
use Prim.Native.Nat.{ℕ, ◌+◌, ◌-◌, ◌≤◌, ◌<◌}
use native.Mathlib.Omega.{arith}
use mathlib.Core.Path.{◌≡◌, sym, ◌∙◌}
use mathlib.Core.Bool.{true, false}
use mathlib.Core.Logic.{◌⊎◌, inl, inr}
use Rattle.std.proofs.lemmas.Bool.{cases_lt}
use Rattle.definitions.specs.Location.{Location}
use Rattle.definitions.proofs.Tests.{not_both, same_test}
use Rattle.conflicts.specs.Lined.{first_from}
use Rattle.conflicts.proofs.Line.{Earlier, earlier_told}
use Rattle.lined_locations.specs.declared.Line.{Line}
use Rattle.lined_locations.specs.Line.{location_of}
use Rattle.lined_locations.proofs.Addresses.{Turn, first, created, behind, further, not_yet}
use Rattle.clashing.specs.Strikes.{strikes, OneAddress, Below}
use Rattle.clashing.proofs.Striking.{Struck, strikes_is}

module _ (v : Line) (x : Location) (t : Turn v.count (location_of v) x) where
  -- the entries up to q are at the address of entry g
  pub turn_address : OneAddress v t.g t.q x
  turn_address = record {
    low = (first t).low;
    high = (first t).high;
    same = λ i j h k h' k'. (created t i h k).0 ∙ sym (created t j h' k').0;
    before = λ i h k. (created t i h k).1;
  }

  module _ (from upto : ℕ) (b : Below v from upto x) (h : from ≤ t.g) (k : t.g < upto) where
    -- that address is below x
    lesser : t.b < x.address
    lesser = omega (arith, t.address, b.below t.g h k)

    turn_inside : t.q ≤ upto
    turn_inside = go (cases_lt upto t.q)
      where
        go : (upto < t.q) ⊎ (t.q ≤ upto) → t.q ≤ upto
        go (inl l) = absurd (omega (arith, lesser, (created t upto (omega arith) l).0, b.behind upto (omega arith) (omega (arith, (first t).high))))
        go (inr l) = l

    -- one of them is struck
    pub turn_found : true ≡ strikes v (t.q - t.g) t.g x → true ≡ strikes v (upto - t.g) t.g x
    turn_found e = sym ((strikes_is v x t.g upto (omega arith)).1 (on ((strikes_is v x t.g t.q (first t).low).0 (sym e))))
      where
        on : Struck v x t.g t.q → Struck v x t.g upto
        on w = record { index = w.index; low = w.low; high = omega (arith, w.high, turn_inside); together = w.together; beyond = w.beyond }

    -- p is the first behind that address
    module _ (p : ℕ) (e : p ≡ first_from (location_of v) (v.count - t.q) t.q (t.b + 1) 0) where
      pub next_inside : p ≤ upto
      next_inside = go (cases_lt upto p)
        where
          go : (upto < p) ⊎ (p ≤ upto) → p ≤ upto
          go (inl l) =
              let d : x.address ≤ (location_of v upto).address = b.behind upto (omega arith) (omega (arith, (behind t p e).high)) in
              let w : Earlier true (location_of v upto) (t.b + 1) 0 = earlier_told (location_of v upto) (t.b + 1) 0 true ((behind t p e).before upto turn_inside l) in
              absurd (omega (arith, w.1 (omega (arith, w.0, d, lesser))))
          go (inr l) = l

      -- none of them is
      pub turn_on : false ≡ strikes v (t.q - t.g) t.g x → strikes v (upto - p) p x ≡ strikes v (upto - t.g) t.g x
      turn_on f = same_test (strikes v (upto - p) p x) (strikes v (upto - t.g) t.g x)
          (λ u. (strikes_is v x t.g upto (omega arith)).1 (back ((strikes_is v x p upto next_inside).0 u)))
          (λ u. (strikes_is v x p upto next_inside).1 (on ((strikes_is v x t.g upto (omega arith)).0 u)))
        where
          back : Struck v x p upto → Struck v x t.g upto
          back w = record { index = w.index; low = omega (arith, w.low, further t p e); high = w.high; together = w.together; beyond = w.beyond }

          on : Struck v x t.g upto → Struck v x p upto
          on w = go (cases_lt w.index p) (cases_lt w.index t.q)
            where
              go : (w.index < p) ⊎ (p ≤ w.index) → (w.index < t.q) ⊎ (t.q ≤ w.index) → Struck v x p upto
              go o (inl l) = absurd (not_both (sym f) ((strikes_is v x t.g t.q (first t).low).1 (record { index = w.index; low = w.low; high = l; together = w.together; beyond = w.beyond })))
              go (inl o) (inr l) = absurd (not_yet t p e w.index l o w.together)
              go (inr o) (inr l) = record { index = w.index; low = o; high = w.high; together = w.together; beyond = w.beyond }
