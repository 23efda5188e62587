-- How many places sets have, one within another. Assumes nothing.
use Prim.Native.Nat.{suc, ◌≤◌}
use native.Mathlib.Omega.{arith}
use mathlib.Core.Path.{◌≡◌, refl, sym, subst}
use mathlib.Core.Logic.{◌⊎◌, inl, inr}
use mathlib.Core.List.Memᴰ.{cases_cons as split}
use mathlib.Core.List.Memᴰ.{head as here}
use mathlib.Core.List.Memᴰ.{not-nil}
use mathlib.Core.List.Memᴰ.{tail as later}
use mathlib.Core.List.{List, [], ◌∷◌, Memᴰ as Mem}
use lib.ListN.{length}
use Rattle.definitions.specs.Location.{Location, normal, Sorted, Less}
use Rattle.definitions.proofs.Order.{less_asym, mem_normal, normal_mem, sorted_normal}
use Rattle.place_lookup.specs.Lookup.{Within}
use Rattle.place_lookup.proofs.Sets.{less_irrefl}

pub ascending_within : (ls ms : List Location) → Sorted Less ls → Sorted Less ms → Within ls ms → length ls ≤ length ms
ascending_within [] ms s t f = omega arith
ascending_within (l ∷ ls) [] s t f = absurd (not-nil (f l (here refl)))
ascending_within (l ∷ ls) (m ∷ ms) s t f = go (split (f l (here refl))) (ascending_within ls ms s.1 t.1) (ascending_within (l ∷ ls) ms s t.1)
  where
    -- behind the first there is no m
    rest : l ≡ m → (x : Location) → Mem x ls → (x ≡ m) ⊎ Mem x ms → Mem x ms
    rest e x h (inl q) = absurd (less_irrefl (subst (Less l) q (s.0 x h)) e)
    rest e x h (inr k) = k

    -- the first is behind m, so that m is none of them
    none : Mem l ms → (x : Location) → Mem x (l ∷ ls) → (x ≡ m) ⊎ Mem x ms → Mem x ms
    none k x h (inr j) = j
    none k x (here e) (inl q) = absurd (less_irrefl (subst (Less m) (sym e) (t.0 l k)) (sym q))
    none k x (later h) (inl q) = absurd (less_asym (subst (Less l) q (s.0 x h)) (t.0 l k))

    go : (l ≡ m) ⊎ Mem l ms → (Within ls ms → length ls ≤ length ms)
        → (Within (l ∷ ls) ms → suc (length ls) ≤ length ms) → suc (length ls) ≤ suc (length ms)
    go (inl e) ih ih' = omega (arith, ih (λ x h. rest e x h (split (f x (later h)))))
    go (inr k) ih ih' = omega (arith, ih' (λ x h. none k x h (split (f x h))))

-- a set within another has at most as many places
pub fewer : (xs ys : List Location) → Within xs ys → length (normal xs) ≤ length (normal ys)
fewer xs ys f = ascending_within (normal xs) (normal ys) (sorted_normal xs) (sorted_normal ys) (λ x h. mem_normal ys (f x (normal_mem xs h)))
