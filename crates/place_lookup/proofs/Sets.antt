-- Sets of places as ascending lists: what the members decide, and what a new one adds. Assumes nothing.
use Prim.Native.Nat.{suc, Ordering}
use native.Mathlib.Omega.{arith}
use mathlib.Core.Path.{◌≡◌, refl, sym, subst}
use mathlib.Core.Logic.{◌⊎◌, inl, inr}
use mathlib.Core.List.Memᴰ.{append_cases}
use mathlib.Core.List.Memᴰ.{head as here}
use mathlib.Core.List.Memᴰ.{tail as later}
use mathlib.Core.List.{List, [], ◌∷◌, ◌++◌, Memᴰ as Mem}
use lib.ListN.{length}
use Rattle.definitions.specs.Location.{Location, order, placed, insert, normal, Sorted, Less}
use Rattle.definitions.proofs.Order.{Cmp, cmp, less_asym, mem_normal, normal_mem, sorted_normal, same_lists}
use Rattle.place_lookup.specs.Lookup.{Within}

-- no place comes before itself
pub less_irrefl : {l m : Location} → Less l m → l ≡ m → ⊥
less_irrefl {l} h e = less_asym (subst (Less l) (sym e) h) (subst (Less l) (sym e) h)

-- ── the members decide ──

pub normal_same : (xs ys : List Location) → Within xs ys → Within ys xs → normal xs ≡ normal ys
normal_same xs ys f g =
    same_lists (normal xs) (normal ys) (sorted_normal xs) (sorted_normal ys) (λ x h. mem_normal ys (f x (normal_mem xs h))) (λ x h. mem_normal xs (g x (normal_mem ys h)))

pub normal_ascending : (ls : List Location) → Sorted Less ls → normal ls ≡ ls
normal_ascending ls s = same_lists (normal ls) ls (sorted_normal ls) s (λ x h. normal_mem ls h) (λ x h. mem_normal ls h)

pub append_within : {xs ys zs : List Location} → Within xs zs → Within ys zs → Within (xs ++ ys) zs
append_within {xs} {ys} {zs} f g x h = go (append_cases xs h)
  where
    go : Mem x xs ⊎ Mem x ys → Mem x zs
    go (inl k) = f x k
    go (inr k) = g x k

-- ── how many there are ──

insert_new_length : (l : Location) (ms : List Location) → (Mem l ms → ⊥) → length (insert l ms) ≡ suc (length ms)
insert_new_length l [] n = refl
insert_new_length l (m ∷ ms) n = go (order l m) (cmp l m) (insert_new_length l ms (λ h. n (later h)))
  where
    go : (o : Ordering) → Cmp o l m → length (insert l ms) ≡ suc (length ms) → length (placed o l m ms (insert l ms)) ≡ suc (suc (length ms))
    go Ordering.lt c ih = refl
    go Ordering.eq c ih = absurd (n (here c))
    go Ordering.gt c ih = omega arith

-- a place that is none of them makes one more
pub normal_new : (l : Location) (ls : List Location) → (Mem l ls → ⊥) → length (normal (l ∷ ls)) ≡ suc (length (normal ls))
normal_new l ls n = insert_new_length l (normal ls) (λ h. n (normal_mem ls h))
