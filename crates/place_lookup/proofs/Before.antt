-- Of ascending places, those that come before one stand first, and a search by halves counts them. Assumes nothing.
use Prim.Native.Nat.{ℕ, zero, suc, ◌+◌, ◌*◌, ◌≤◌, ◌<◌}
use native.Mathlib.Nat.{not-suc-le-zero}
use native.Mathlib.Omega.{arith}
use mathlib.Core.Path.{◌≡◌, refl, sym, ap, subst, ◌∙◌}
use mathlib.Core.Logic.{◌⊎◌, inl, inr}
use mathlib.Core.Bool.{Bool, true, false, cond}
use mathlib.Core.List.Memᴰ.{not-nil}
use mathlib.Core.List.Memᴰ.{head as here}
use mathlib.Core.List.Memᴰ.{tail as later}
use mathlib.Core.List.{List, [], ◌∷◌, Memᴰ as Mem}
use lib.ListN.{length, get_or, take}
use Rattle.std.proofs.lemmas.Bool.{cases_lt}
use Rattle.definitions.specs.Location.{Location, order, is_lt, Sorted, location_at, locations_in, Less}
use Rattle.definitions.proofs.Order.{less_trans}
use Rattle.definitions.proofs.Locations.{length_locations, get_or_locations}
use Rattle.halving.specs.Halving.{Parts, PointOf}
use Rattle.place_lookup.specs.Lookup.{before_count}
use Rattle.place_lookup.proofs.Triples.{is_lt_less, less_is_lt}

get_or_mem : (ls : List Location) (i : ℕ) (d : Location) → i < length ls → Mem (get_or ls i d) ls
get_or_mem [] i d h = absurd (not-suc-le-zero h)
get_or_mem (x ∷ ls) zero d h = here refl
get_or_mem (x ∷ ls) (suc i) d h = later (get_or_mem ls i d (omega arith))

module _ (l : Location) where
  pub before_le : (ls : List Location) → before_count l ls ≤ length ls
  unfolding before_count
  before_le [] = omega arith
  before_le (x ∷ ls) = go (is_lt (order x l)) (before_le ls)
    where
      go : (o : Bool) → before_count l ls ≤ length ls → cond o (suc (before_count l ls)) 0 ≤ suc (length ls)
      go true h = omega arith
      go false h = omega arith

  -- those that are counted come before it
  pub front_before : (ls : List Location) (i : ℕ) → i ≤ before_count l ls → (m : Location) → Mem m (take i ls) → Less m l
  unfolding before_count
  front_before ls zero h m k = absurd (not-nil k)
  front_before [] (suc i) h m k = absurd (not-nil k)
  front_before (x ∷ ls) (suc i) h m k = go (is_lt (order x l)) refl (front_before ls i) h k
    where
      go : (o : Bool) → is_lt (order x l) ≡ o → (i ≤ before_count l ls → (y : Location) → Mem y (take i ls) → Less y l)
          → suc i ≤ cond o (suc (before_count l ls)) 0 → Mem m (x ∷ take i ls) → Less m l
      go true t ih h (here q) = subst (λ (y : Location). Less y l) (sym q) (is_lt_less x l t)
      go true t ih h (later k) = ih (omega arith) m k
      go false t ih h k = absurd (not-suc-le-zero h)

  -- the place i comes before it: it is one of those counted
  counted : (ls : List Location) (i : ℕ) (d : Location) → Sorted Less ls → i < length ls → is_lt (order (get_or ls i d) l) ≡ true → i < before_count l ls
  unfolding before_count
  counted [] i d s h e = absurd (not-suc-le-zero h)
  counted (x ∷ ls) zero d s h e = rw e (omega arith)
  counted (x ∷ ls) (suc i) d s h e =
      let t : is_lt (order x l) ≡ true = less_is_lt x l (less_trans (s.0 (get_or ls i d) (get_or_mem ls i d (omega arith))) (is_lt_less (get_or ls i d) l e)) in
      rw t (omega (arith, counted ls i d s.1 (omega arith) e))

  -- it does not: it is none of them
  uncounted : (ls : List Location) (i : ℕ) (d : Location) → i < length ls → is_lt (order (get_or ls i d) l) ≡ false → before_count l ls ≤ i
  unfolding before_count
  uncounted [] i d h e = absurd (not-suc-le-zero h)
  uncounted (x ∷ ls) zero d h e = rw e (omega arith)
  uncounted (x ∷ ls) (suc i) d h e = go (is_lt (order x l)) (uncounted ls i d (omega arith) e)
    where
      go : (o : Bool) → before_count l ls ≤ i → cond o (suc (before_count l ls)) 0 ≤ suc i
      go true k = omega arith
      go false k = omega arith

-- ── in bytes ──

take_locations : (i n : ℕ) (s : List ℕ) (at : ℕ) → i ≤ n → take i (locations_in s n at) ≡ locations_in s i at
unfolding locations_in
take_locations zero n s at h = refl
take_locations (suc i) zero s at h = absurd (not-suc-le-zero h)
take_locations (suc i) (suc n) s at h = ap (λ (ls : List Location). location_at s at ∷ ls) (take_locations i n s (at + 24) (omega arith))

module _ (s : List ℕ) (n at : ℕ) (l : Location) where
  pub before_listed : before_count l (locations_in s n at) ≤ n
  before_listed = omega (arith, before_le l (locations_in s n at), length_locations n s at)

  pub front_listed : (i : ℕ) → i ≤ before_count l (locations_in s n at) → (m : Location) → Mem m (locations_in s i at) → Less m l
  front_listed i h m k =
      front_before l (locations_in s n at) i h m (subst (Mem m) (sym (take_locations i n s at (omega (arith, before_listed)))) k)

  -- ── the search by halves ──

  -- the place i comes before l
  abbrev pub before : ℕ → Bool
  before i = is_lt (order (location_at s (at + i * 24)) l)

  here_is : (i : ℕ) → i < n → is_lt (order (get_or (locations_in s n at) i l) l) ≡ before i
  here_is i h = ap (λ (x : Location). is_lt (order x l)) (get_or_locations n s at i l h)

  inside : (i : ℕ) → i < n → i < length (locations_in s n at)
  inside i h = omega (arith, length_locations n s at)

  up_to : (i : ℕ) → i < n → before i ≡ false → before_count l (locations_in s n at) ≤ i
  up_to i h e = uncounted l (locations_in s n at) i l (inside i h) (here_is i h ∙ e)

  module _ (up : Sorted Less (locations_in s n at)) where
    behind : (i : ℕ) → i < n → before i ≡ true → i < before_count l (locations_in s n at)
    behind i h e = counted l (locations_in s n at) i l up (inside i h) (here_is i h ∙ e)

    pub before_parts : Parts 0 n before
    before_parts i j lo ij jn e = go (before i) refl
      where
        go : (o : Bool) → before i ≡ o → before i ≡ true
        go true f = f
        go false f = absurd (omega (arith, behind j jn e, up_to i (omega arith) f))

    pub before_point : (k : ℕ) → k ≤ n → PointOf 0 n before k → k ≡ before_count l (locations_in s n at)
    before_point k kn p =
        let a : k ≤ before_count l (locations_in s n at) = go k refl in
        let b : before_count l (locations_in s n at) ≤ k = last (cases_lt k n) in
        omega arith
      where
        go : (i : ℕ) → k ≡ i → k ≤ before_count l (locations_in s n at)
        go zero e = omega arith
        go (suc i) e = omega (arith, behind i (omega arith) (p.holds i (omega arith) (omega arith)))

        last : (k < n) ⊎ (n ≤ k) → before_count l (locations_in s n at) ≤ k
        last (inl h) = up_to k h (p.ends k (omega arith) h)
        last (inr h) = omega (arith, before_listed)
