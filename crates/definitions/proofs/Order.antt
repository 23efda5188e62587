-- The order of locations, and sorted lists of them. Assumes nothing.
use Prim.Native.Nat.{ℕ, zero, suc, ◌≤◌, ◌<◌, compare, Ordering}
use native.Mathlib.Nat.{le_of_suc-le-suc, not-suc-le-zero}
use native.Mathlib.Omega.{arith}
use mathlib.Core.Path.{◌≡◌, refl, sym, ap, ◌∙◌, subst}
use mathlib.Core.Logic.{◌⊎◌, inl, inr}
use mathlib.Core.List.Memᴰ.{cases_cons as split}
use mathlib.Core.List.Memᴰ.{cast}
use mathlib.Core.List.Memᴰ.{head as here}
use mathlib.Core.List.Memᴰ.{not-nil}
use mathlib.Core.List.Memᴰ.{tail as later}
use mathlib.Core.List.{List, [], ◌∷◌, Memᴰ as Mem}
use lib.ListN.{length, get_or}
use lib.Dec.{is_le, compare_is_eq}
use borrow.Author.Tests.{leb-true, leb-false, eqb-true, eqb-false}
use Rattle.definitions.specs.Location.{Location, order, or_else, placed, insert, normal, Sorted, Less}

-- ── what a comparison tells ──

abbrev pub Tri : Ordering → ℕ → ℕ → Type 0
Tri Ordering.lt a b = a < b
Tri Ordering.eq a b = a ≡ b
Tri Ordering.gt a b = b < a

pub tri : (a b : ℕ) → Tri (compare a b) a b
tri a b = go (compare a b) refl
  where
    lt_of : compare a b ≡ Ordering.lt → a < b
    lt_of e =
        let le : a ≤ b = leb-true a b (ap is_le e) in
        let ne : ¬ (a ≡ b) = eqb-false a b (ap compare_is_eq e) in
        omega arith

    go : (o : Ordering) → compare a b ≡ o → Tri o a b
    go Ordering.lt e = lt_of e
    go Ordering.eq e = eqb-true a b (ap compare_is_eq e)
    go Ordering.gt e = leb-false a b (ap is_le e)

pub location_path : {l m : Location} → l.address ≡ m.address → l.created ≡ m.created → l.destroyed ≡ m.destroyed → l ≡ m
location_path p q r = λ i. record { address = p i; created = q i; destroyed = r i }

abbrev pub Cmp : Ordering → Location → Location → Type 0
Cmp Ordering.lt l m = Less l m
Cmp Ordering.eq l m = l ≡ m
Cmp Ordering.gt l m = Less m l

pub cmp : (l m : Location) → Cmp (order l m) l m
cmp l m = go (compare l.address m.address) (compare l.created m.created) (compare l.destroyed m.destroyed) (tri l.address m.address) (tri l.created m.created) (tri l.destroyed m.destroyed)
  where
    go : (o₁ o₂ o₃ : Ordering) → Tri o₁ l.address m.address → Tri o₂ l.created m.created → Tri o₃ l.destroyed m.destroyed → Cmp (or_else o₁ (or_else o₂ o₃)) l m
    go Ordering.lt o₂ o₃ a c d = omega arith
    go Ordering.gt o₂ o₃ a c d = omega arith
    go Ordering.eq Ordering.lt o₃ a c d = omega arith
    go Ordering.eq Ordering.gt o₃ a c d = omega arith
    go Ordering.eq Ordering.eq Ordering.lt a c d = omega arith
    go Ordering.eq Ordering.eq Ordering.gt a c d = omega arith
    go Ordering.eq Ordering.eq Ordering.eq a c d = location_path a c d

pub less_asym : {l m : Location} → Less l m → Less m l → ⊥
less_asym {l} {m} h k =
    let a : l.address ≡ m.address = omega arith in
    let c₁ : l.created ≤ m.created = h.by_created a in
    let c₂ : m.created ≤ l.created = k.by_created (sym a) in
    let c : l.created ≡ m.created = omega arith in
    omega (arith, h.by_destroyed a c, k.by_destroyed (sym a) (sym c))

pub less_trans : {l m n : Location} → Less l m → Less m n → Less l n
less_trans {l} {m} {n} h k = record { by_address = omega arith; by_created = created; by_destroyed = destroyed }
  where
    created : l.address ≡ n.address → l.created ≤ n.created
    created e =
        let a : l.address ≡ m.address = omega arith in
        let b : m.address ≡ n.address = omega arith in
        omega (arith, h.by_created a, k.by_created b)

    destroyed : l.address ≡ n.address → l.created ≡ n.created → l.destroyed < n.destroyed
    destroyed e f =
        let a : l.address ≡ m.address = omega arith in
        let b : m.address ≡ n.address = omega arith in
        let c : l.created ≡ m.created = omega (arith, h.by_created a, k.by_created b) in
        let d : m.created ≡ n.created = omega arith in
        omega (arith, h.by_destroyed a c, k.by_destroyed b d)

-- ── insertion keeps the members, and the order ──

pub insert_mem : {x : Location} (l : Location) (ms : List Location) → Mem x (insert l ms) → (x ≡ l) ⊎ Mem x ms
insert_mem l [] h = split h
insert_mem {x} l (m ∷ ms) h = go (order l m) (insert_mem l ms) h
  where
    tail : (x ≡ l) ⊎ Mem x ms → (x ≡ l) ⊎ Mem x (m ∷ ms)
    tail (inl e) = inl e
    tail (inr k) = inr (later k)

    third : (Mem x (insert l ms) → (x ≡ l) ⊎ Mem x ms) → (x ≡ m) ⊎ Mem x (insert l ms) → (x ≡ l) ⊎ Mem x (m ∷ ms)
    third ih (inl e) = inr (here e)
    third ih (inr k) = tail (ih k)

    go : (o : Ordering) → (Mem x (insert l ms) → (x ≡ l) ⊎ Mem x ms) → Mem x (placed o l m ms (insert l ms)) → (x ≡ l) ⊎ Mem x (m ∷ ms)
    go Ordering.lt ih h = split h
    go Ordering.eq ih h = inr h
    go Ordering.gt ih h = third ih (split h)

pub insert_new : (l : Location) (ms : List Location) → Mem l (insert l ms)
insert_new l [] = here refl
insert_new l (m ∷ ms) = go (order l m) (cmp l m) (insert_new l ms)
  where
    go : (o : Ordering) → Cmp o l m → Mem l (insert l ms) → Mem l (placed o l m ms (insert l ms))
    go Ordering.lt c ih = here refl
    go Ordering.eq c ih = here c
    go Ordering.gt c ih = later ih

pub insert_old : {x : Location} (l : Location) (ms : List Location) → Mem x ms → Mem x (insert l ms)
insert_old l [] h = later h
insert_old {x} l (m ∷ ms) h = go (order l m) (insert_old l ms) h
  where
    third : (Mem x ms → Mem x (insert l ms)) → (x ≡ m) ⊎ Mem x ms → Mem x (m ∷ insert l ms)
    third ih (inl e) = here e
    third ih (inr k) = later (ih k)

    go : (o : Ordering) → (Mem x ms → Mem x (insert l ms)) → Mem x (m ∷ ms) → Mem x (placed o l m ms (insert l ms))
    go Ordering.lt ih h = later h
    go Ordering.eq ih h = h
    go Ordering.gt ih h = third ih (split h)

pub mem_normal : {x : Location} (ls : List Location) → Mem x ls → Mem x (normal ls)
mem_normal [] x'' = elim x'' [ ]
mem_normal (l ∷ ls) (here e) = cast e (insert_new l (normal ls))
mem_normal (l ∷ ls) (later h) = insert_old l (normal ls) (mem_normal ls h)

pub normal_mem : {x : Location} (ls : List Location) → Mem x (normal ls) → Mem x ls
normal_mem {x = x} [] h = elim h [ ]
normal_mem {x} (l ∷ ls) h = go (normal_mem ls) (insert_mem l (normal ls) h)
  where
    go : (Mem x (normal ls) → Mem x ls) → (x ≡ l) ⊎ Mem x (normal ls) → Mem x (l ∷ ls)
    go ih (inl e) = here e
    go ih (inr k) = later (ih k)

pub sorted_insert : (l : Location) (ms : List Location) → Sorted Less ms → Sorted Less (insert l ms)
sorted_insert l [] s = ((λ x h. absurd (not-nil h)), tt)
sorted_insert l (m ∷ ms) s = go (order l m) (cmp l m) (sorted_insert l ms s.1)
  where
    below : Less l m → (x : Location) → Mem x (m ∷ ms) → Less l x
    below c x (here e) = subst (Less l) (sym e) c
    below c x (later h) = less_trans c (s.0 x h)

    above : Less m l → (x : Location) → (x ≡ l) ⊎ Mem x ms → Less m x
    above c x (inl e) = subst (Less m) (sym e) c
    above c x (inr h) = s.0 x h

    go : (o : Ordering) → Cmp o l m → Sorted Less (insert l ms) → Sorted Less (placed o l m ms (insert l ms))
    go Ordering.lt c ih = (below c, s)
    go Ordering.eq c ih = s
    go Ordering.gt c ih = ((λ x h. above c x (insert_mem l ms h)), ih)

pub sorted_normal : (ls : List Location) → Sorted Less (normal ls)
sorted_normal [] = tt
sorted_normal (l ∷ ls) = sorted_insert l (normal ls) (sorted_normal ls)

-- each once: no more than there were
insert_length : (l : Location) (ms : List Location) → length (insert l ms) ≤ suc (length ms)
insert_length l [] = omega arith
insert_length l (m ∷ ms) = go (order l m) (insert_length l ms)
  where
    go : (o : Ordering) → length (insert l ms) ≤ suc (length ms) → length (placed o l m ms (insert l ms)) ≤ suc (suc (length ms))
    go Ordering.lt ih = omega arith
    go Ordering.eq ih = omega arith
    go Ordering.gt ih = omega arith

pub length_normal : (ls : List Location) → length (normal ls) ≤ length ls
length_normal [] = omega arith
length_normal (l ∷ ls) = omega (arith, insert_length l (normal ls), length_normal ls)

-- ── sorted lists with the same members are equal ──

pub same_lists : (ls ms : List Location) → Sorted Less ls → Sorted Less ms → ((x : Location) → Mem x ls → Mem x ms) → ((x : Location) → Mem x ms → Mem x ls) → ls ≡ ms
same_lists [] [] s t f g = refl
same_lists [] (m ∷ ms) s t f g = absurd (not-nil (g m (here refl)))
same_lists (l ∷ ls) [] s t f g = absurd (not-nil (f l (here refl)))
same_lists (l ∷ ls) (m ∷ ms) s t f g = both (same_lists ls ms s.1 t.1 f' g')
  where
    heads : (l ≡ m) ⊎ Mem l ms → (m ≡ l) ⊎ Mem m ls → l ≡ m
    heads (inl e) k = e
    heads (inr h) (inl e) = sym e
    heads (inr h) (inr k) = absurd (less_asym (s.0 m k) (t.0 l h))

    head : l ≡ m
    head = heads (split (f l (here refl))) (split (g m (here refl)))

    f' : (x : Location) → Mem x ls → Mem x ms
    f' x h = go (split (f x (later h)))
      where
        go : (x ≡ m) ⊎ Mem x ms → Mem x ms
        go (inl e) = absurd (less_asym (subst (Less l) (e ∙ sym head) (s.0 x h)) (subst (Less l) (e ∙ sym head) (s.0 x h)))
        go (inr k) = k

    g' : (x : Location) → Mem x ms → Mem x ls
    g' x h = go (split (g x (later h)))
      where
        go : (x ≡ l) ⊎ Mem x ls → Mem x ls
        go (inl e) = absurd (less_asym (subst (Less m) (e ∙ head) (t.0 x h)) (subst (Less m) (e ∙ head) (t.0 x h)))
        go (inr k) = k

    both : ls ≡ ms → l ∷ ls ≡ m ∷ ms
    both e = cc head

-- an element at an index is a member
pub mem_get_or : (xs : List ℕ) (i : ℕ) → i < length xs → Mem (get_or xs i 0) xs
mem_get_or [] i h = absurd (not-suc-le-zero h)
mem_get_or (x ∷ xs) zero h = here refl
mem_get_or (x ∷ xs) (suc i) h = later (mem_get_or xs i (le_of_suc-le-suc h))
