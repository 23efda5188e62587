-- The places of two ascending lists counted: those of the second are looked up in the first, one by one. Assumes nothing.
use Prim.Native.Nat.{ℕ, suc, ◌+◌, ◌-◌, ◌*◌, ◌≤◌, ◌<◌}
use native.Mathlib.Omega.{arith}
use mathlib.Core.Path.{◌≡◌, refl, sym, ap, subst, ◌∙◌}
use mathlib.Core.Bool.{Bool, true, false, cond}
use mathlib.Core.Logic.{◌⊎◌, inl, inr}
use mathlib.Core.List.Memᴰ.{append_cases}
use mathlib.Core.List.Memᴰ.{append_left}
use mathlib.Core.List.Memᴰ.{append_right}
use mathlib.Core.List.Memᴰ.{cases_cons as split}
use mathlib.Core.List.Memᴰ.{cast}
use mathlib.Core.List.Memᴰ.{head as here}
use mathlib.Core.List.Memᴰ.{tail as later}
use mathlib.Core.List.{List, [], ◌∷◌, ◌++◌, Memᴰ as Mem}
use lib.ListN.{length}
use Rattle.definitions.specs.Location.{Location, Sorted, normal, location_at, locations_in, Less}
use Rattle.place_lookup.specs.Lookup.{Ascending, Within, There}
use Rattle.place_lookup.proofs.Sets.{less_irrefl, normal_same, normal_ascending, append_within, normal_new}
use Rattle.definitions.proofs.Locations.{length_locations, locations_snoc, locations_append}

-- the last of an ascending list is none of those before it
last_new : (xs : List Location) (l : Location) → Sorted Less (xs ++ (l ∷ [])) → Mem l xs → ⊥
last_new [] l s x'' = elim x'' [ ]
last_new (x ∷ xs) l s (here e) = less_irrefl (s.0 l (append_right xs (here refl))) (sym e)
last_new (x ∷ xs) l s (later h) = last_new xs l s.1 h

pub sorted_front : (xs ys : List Location) → Sorted Less (xs ++ ys) → Sorted Less xs
sorted_front [] ys s = tt
sorted_front (x ∷ xs) ys s = (λ m h. s.0 m (append_left ys h), sorted_front xs ys s.1)

-- one more on the left
module _ (xs zs : List Location) (l : Location) where
  snoc_cons : Within (xs ++ (l ∷ []) ++ zs) (l ∷ (xs ++ zs))
  snoc_cons =
      append_within {xs = xs ++ (l ∷ [])} {ys = zs} (append_within {xs = xs} {ys = l ∷ []} (λ x h. later (append_left zs h)) (λ x h. append_left (xs ++ zs) h)) (λ x h. later (append_right xs h))

  cons_snoc : Within (l ∷ (xs ++ zs)) (xs ++ (l ∷ []) ++ zs)
  cons_snoc =
      append_within {xs = l ∷ []} {ys = xs ++ zs} (λ x h. append_left zs (append_right xs h)) (append_within {xs = xs} {ys = zs} (λ x h. append_left zs (append_left (l ∷ []) h)) (λ x h. append_right (xs ++ (l ∷ [])) h))

  more_new : (Mem l (xs ++ zs) → ⊥) → length (normal (xs ++ (l ∷ []) ++ zs)) ≡ suc (length (normal (xs ++ zs)))
  more_new n = ap length (normal_same (xs ++ (l ∷ []) ++ zs) (l ∷ (xs ++ zs)) snoc_cons cons_snoc) ∙ normal_new l (xs ++ zs) n

  more_known : Mem l zs → length (normal (xs ++ (l ∷ []) ++ zs)) ≡ length (normal (xs ++ zs))
  more_known h =
      ap length (normal_same (xs ++ (l ∷ []) ++ zs) (xs ++ zs) (λ x k. known x (split (snoc_cons x k))) (λ x k. cons_snoc x (later k)))
    where
      known : (x : Location) → (x ≡ l) ⊎ Mem x (xs ++ zs) → Mem x (xs ++ zs)
      known x (inl e) = cast e (append_right xs h)
      known x (inr k) = k

-- ── the loop: j of the m are counted ──

module _ (img : List ℕ) (a n b : ℕ) where
  pub both_start : Ascending (locations_in img n a) → n ≡ length (normal (locations_in img 0 b ++ locations_in img n a))
  unfolding locations_in
  both_start s = sym (length_locations n img a) ∙ ap length (sym (normal_ascending (locations_in img n a) s))

  module _ (m : ℕ) where
    front : (j : ℕ) → j ≤ m → Ascending (locations_in img m b) → Ascending (locations_in img j b)
    front j h s =
        let e : m ≡ j + (m - j) = omega arith in
        sorted_front (locations_in img j b) (locations_in img (m - j) (b + j * 24))
        (subst Ascending (ap (λ (k : ℕ). locations_in img k b) e ∙ locations_append j (m - j) img b) s)

    pub both_next : {l : Location} {count more : ℕ} (t : Bool) (j : ℕ) → j < m → Ascending (locations_in img m b) → count ≡ length (normal (locations_in img j b ++ locations_in img n a)) → l ≡ location_at img (b + j * 24)
        → There t l (locations_in img n a) → more ≡ cond t count (count + 1) → more ≡ length (normal (locations_in img (j + 1) b ++ locations_in img n a))
    both_next {l} {count} {more} t j h s ec el th em = em ∙ go t th
      where
        xs : List Location
        xs = locations_in img j b

        ms : List Location
        ms = locations_in img n a

        next : locations_in img (j + 1) b ≡ xs ++ (l ∷ [])
        next = locations_snoc j img b ∙ ap (λ (x : Location). locations_in img j b ++ (x ∷ [])) (sym el)

        fresh : (Mem l ms → ⊥) → Mem l xs ⊎ Mem l ms → ⊥
        fresh f (inl k) = last_new xs l (subst Ascending next (front (j + 1) (omega arith) s)) k
        fresh f (inr k) = f k

        go : (t : Bool) → There t l ms → cond t count (count + 1) ≡ length (normal (locations_in img (j + 1) b ++ locations_in img n a))
        go true k = rw next (omega (arith, more_known xs ms l k))
        go false k = rw next (omega (arith, more_new xs ms l (λ i. fresh k (append_cases xs i))))

    pub both_done : {count : ℕ} (j : ℕ) → j ≤ m → m ≤ j → count ≡ length (normal (locations_in img j b ++ locations_in img n a)) → count ≡ length (normal (locations_in img n a ++ locations_in img m b))
    both_done j h k e =
        let f : j ≡ m = omega arith in
        e ∙ ap (λ (i : ℕ). length (normal (locations_in img i b ++ locations_in img n a))) f
        ∙ ap length (normal_same (locations_in img m b ++ locations_in img n a) (locations_in img n a ++ locations_in img m b) (swap (locations_in img m b) (locations_in img n a)) (swap (locations_in img n a) (locations_in img m b)))
      where
        swap : (xs ys : List Location) → Within (xs ++ ys) (ys ++ xs)
        swap xs ys = append_within {xs = xs} {ys = ys} (λ x i. append_right ys i) (λ x i. append_left xs i)
