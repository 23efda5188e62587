-- Looking a place up among ascending ones: the first that is not before it is it, or it is none of them. Assumes nothing.
use Prim.Native.Nat.{ℕ, suc, ◌+◌, ◌*◌, ◌≤◌, ◌<◌, Ordering}
use native.Mathlib.Nat.{not-suc-le-zero}
use native.Mathlib.Omega.{arith}
use mathlib.Core.Path.{◌≡◌, refl, sym, ap, subst, ◌∙◌}
use mathlib.Core.Bool.{Bool, true, false, cond}
use mathlib.Core.List.Memᴰ.{head as here}
use mathlib.Core.List.Memᴰ.{not-nil}
use mathlib.Core.List.Memᴰ.{tail as later}
use mathlib.Core.List.{List, [], ◌∷◌, Memᴰ as Mem}
use lib.ListN.{length, get_or}
use Rattle.records.proofs.Order.{clash}
use Rattle.definitions.specs.Location.{Location, order, is_lt, Sorted, location_at, locations_in, Less}
use Rattle.definitions.proofs.Order.{Cmp, cmp, less_asym}
use Rattle.place_lookup.specs.Lookup.{before_count}
use Rattle.place_lookup.proofs.Sets.{less_irrefl}
use Rattle.place_lookup.proofs.Triples.{is_lt_less, less_is_lt}
use Rattle.definitions.proofs.Locations.{length_locations, get_or_locations}

-- neither comes before the other
pub neither : (l m : Location) → is_lt (order l m) ≡ false → is_lt (order m l) ≡ false → l ≡ m
neither l m a b = go (order l m) (cmp l m) a
  where
    go : (o : Ordering) → Cmp o l m → is_lt o ≡ false → l ≡ m
    go Ordering.lt c e = clash e
    go Ordering.eq c e = c
    go Ordering.gt c e = clash (sym (less_is_lt m l c) ∙ b)

module _ (l : Location) where
  -- all come before it
  pub all_before : (ls : List Location) → length ls ≤ before_count l ls → Mem l ls → ⊥
  unfolding before_count
  all_before [] h k = not-nil k
  all_before (m ∷ ls) h k = go (is_lt (order m l)) refl (all_before ls) h k
    where
      go : (o : Bool) → is_lt (order m l) ≡ o → (length ls ≤ before_count l ls → Mem l ls → ⊥) → suc (length ls) ≤ cond o (suc (before_count l ls)) 0 → Mem l (m ∷ ls) → ⊥
      go true e ih h (here q) = less_irrefl (is_lt_less m l e) (sym q)
      go true e ih h (later k) = ih (omega arith) k
      go false e ih h k = not-suc-le-zero h

  -- the first that does not come before it does not come after it
  pub found : (ls : List Location) → before_count l ls < length ls → is_lt (order l (get_or ls (before_count l ls) l)) ≡ false → Mem l ls
  unfolding before_count
  found [] h e = absurd (not-suc-le-zero h)
  found (m ∷ ls) h e = go (is_lt (order m l)) refl (found ls) h e
    where
      go : (o : Bool) → is_lt (order m l) ≡ o → (before_count l ls < length ls → is_lt (order l (get_or ls (before_count l ls) l)) ≡ false → Mem l ls)
          → cond o (suc (before_count l ls)) 0 < suc (length ls) → is_lt (order l (get_or (m ∷ ls) (cond o (suc (before_count l ls)) 0) l)) ≡ false → Mem l (m ∷ ls)
      go true t ih h e = later (ih (omega arith) e)
      go false t ih h e = here (neither l m e t)

  -- the first that does not come before it comes after it
  pub passed : (ls : List Location) → Sorted Less ls → before_count l ls < length ls → is_lt (order l (get_or ls (before_count l ls) l)) ≡ true → Mem l ls → ⊥
  unfolding before_count
  passed [] s h e k = not-nil k
  passed (m ∷ ls) s h e k = go (is_lt (order m l)) refl (passed ls s.1) h e k
    where
      go : (o : Bool) → is_lt (order m l) ≡ o → (before_count l ls < length ls → is_lt (order l (get_or ls (before_count l ls) l)) ≡ true → Mem l ls → ⊥)
          → cond o (suc (before_count l ls)) 0 < suc (length ls) → is_lt (order l (get_or (m ∷ ls) (cond o (suc (before_count l ls)) 0) l)) ≡ true → Mem l (m ∷ ls) → ⊥
      go true t ih h e (here q) = less_irrefl (is_lt_less m l t) (sym q)
      go true t ih h e (later k) = ih (omega arith) e k
      go false t ih h e (here q) = less_irrefl (is_lt_less l m e) q
      go false t ih h e (later k) = less_asym (is_lt_less l m e) (s.0 l k)

-- ── in scratch ──

module _ (n : ℕ) (s : List ℕ) (at : ℕ) where
  -- i is that count, and m the place there
  module _ (l : Location) (i : ℕ) (e : i ≡ before_count l (locations_in s n at)) where
    at_first : {m : Location} → i < n → m ≡ location_at s (at + i * 24) → m ≡ get_or (locations_in s n at) (before_count l (locations_in s n at)) l
    at_first h em = em ∙ sym (get_or_locations n s at i l h) ∙ ap (λ (x : ℕ). get_or (locations_in s n at) x l) e

    pub look_past : n ≤ i → Mem l (locations_in s n at) → ⊥
    look_past h = all_before l (locations_in s n at) (omega (arith, length_locations n s at))

    pub look_after : {m : Location} → Sorted Less (locations_in s n at) → i < n → m ≡ location_at s (at + i * 24) → is_lt (order l m) ≡ true → Mem l (locations_in s n at) → ⊥
    look_after up h em t =
        passed l (locations_in s n at) up (omega (arith, length_locations n s at)) (subst (λ (x : Location). is_lt (order l x) ≡ true) (at_first h em) t)

    pub look_there : {m : Location} → i < n → m ≡ location_at s (at + i * 24) → is_lt (order l m) ≡ false → Mem l (locations_in s n at)
    look_there h em t =
        found l (locations_in s n at) (omega (arith, length_locations n s at)) (subst (λ (x : Location). is_lt (order l x) ≡ false) (at_first h em) t)
