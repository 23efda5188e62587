-- The chunks of a node in place, one after another. Assumes nothing.
use Prim.Native.Nat.{ℕ, suc, ◌+◌, ◌*◌, ◌-◌, ◌≤◌, ◌<◌}
use native.Mathlib.Omega.{arith}
use mathlib.Core.Path.{◌≡◌, refl, sym, ap, subst, ◌∙◌}
use mathlib.Core.Bool.{Bool, true, false, not, ◌&&◌, cond}
use mathlib.Core.List.{List}
use Rattle.std.specs.Prelude.{None, Some}
use Rattle.std.specs.Bool.{then_some}
use borrow.Author.Tests.{le-leb, lt-leb}
use Rattle.definitions.specs.Location.{Location, location_at, locations_in}
use Rattle.definitions.specs.Calls.{last_number}
use Rattle.definitions.proofs.Locations.{length_locations, get_or_locations}
use Rattle.conflicts.specs.Order.{nowhere}
use Rattle.conflicts.proofs.Numbers.{at_member}
use Rattle.image_conflicts.specs.Due.{lives_inside, all_clear, Ending, chunks_due}

module _ (at : ℕ → Location) (n m : ℕ) (s : List ℕ) (base count : ℕ) where
  -- whether those from number j on are clear
  abbrev pub clear_from : ℕ → Bool
  clear_from j = all_clear at n m (locations_in s (count - j) (base + j * 24))

  pub clear_next : (j : ℕ) → j < count → clear_from j ≡ (not (lives_inside at n m (location_at s (base + j * 24))) && clear_from (j + 1))
  unfolding all_clear locations_in
  clear_next j h =
      let e : count - j ≡ suc (count - (j + 1)) = omega arith in
      let f : base + j * 24 + 24 ≡ base + (j + 1) * 24 = omega arith in
      rw (e, f) refl

  pub clear_end : (j : ℕ) → count ≤ j → clear_from j ≡ true
  unfolding all_clear locations_in
  clear_end j h = let e : count - j ≡ 0 = omega arith in rw e refl

  -- number j is not clear
  pub clear_not : (j : ℕ) → j < count → (x : Location) → x ≡ location_at s (base + j * 24) → (r : Bool) → r ≡ not (lives_inside at n m x) → r ≡ false → clear_from j ≡ false
  clear_not j h x e r f z = clear_next j h ∙ ap (λ (o : Bool). o && clear_from (j + 1)) (ap (λ (y : Location). not (lives_inside at n m y)) (sym e) ∙ sym f ∙ z)

  -- number j is clear
  pub clear_on : (j : ℕ) → j < count → (x : Location) → x ≡ location_at s (base + j * 24) → (r : Bool) → r ≡ not (lives_inside at n m x) → r ≡ true → clear_from (j + 1) ≡ clear_from j
  clear_on j h x e r f z = sym (clear_next j h ∙ ap (λ (o : Bool). o && clear_from (j + 1)) (ap (λ (y : Location). not (lives_inside at n m y)) (sym e) ∙ sym f ∙ z))

  pub ending_at : Ending m (locations_in s count base) → (j : ℕ) → j < count → (location_at s (base + j * 24)).address + m ≤ last_number
  ending_at g j h =
      subst (λ (l : Location). l.address + m ≤ last_number) (get_or_locations count s base j nowhere h)
      (g _ (at_member (locations_in s count base) nowhere j (subst (λ (k : ℕ). j < k) (sym (length_locations count s base)) h)))

-- ── how many are due behind them ──

module _ (at : ℕ → Location) (n m : ℕ) (s : List ℕ) (base count due : ℕ) where
  pub due_over : (count ≤ due → ⊥) → None ≡ chunks_due at n m (locations_in s count base) due
  unfolding chunks_due
  due_over h = rw (length_locations count s base, lt-leb count due (omega arith)) refl

  pub due_left : count ≤ due → (r : Bool) → r ≡ all_clear at n m (locations_in s count base) → (k : ℕ) → k ≡ due - count → then_some r k ≡ chunks_due at n m (locations_in s count base) due
  unfolding chunks_due
  due_left h r e k z = rw (length_locations count s base, le-leb count due h, ← e, z) (by r)
    where
      by : (r : Bool) → then_some r (due - count) ≡ cond r (Some (due - count)) None
      by true = refl
      by false = refl
