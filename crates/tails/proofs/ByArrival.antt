-- Groups by arrival: the same members and sums, each before those that arrived later. Assumes nothing.
use Prim.Native.Nat.{ℕ, ◌+◌, ◌≤◌, ◌<◌}
use native.Mathlib.Omega.{arith}
use mathlib.Core.Path.{◌≡◌, refl, sym, ap, ◌∙◌}
use mathlib.Core.Bool.{Bool, true, false, cond}
use mathlib.Core.Logic.{◌⊎◌, inl, inr}
use mathlib.Core.List.Memᴰ.{cases_cons as split}
use mathlib.Core.List.Memᴰ.{head as here}
use mathlib.Core.List.Memᴰ.{not-nil}
use mathlib.Core.List.Memᴰ.{tail as later}
use mathlib.Core.List.{List, [], ◌∷◌, Memᴰ as Mem}
use lib.ListN.{length}
use lib.Dec.{leb}
use Rattle.definitions.proofs.Views.{Le, le}
use Rattle.trie.proofs.Placed.{placed_mem, mem_placed}
use Rattle.tails.specs.Groups.{Group, arrive, by_arrival, kept_groups, Different}

-- ── members ──

arrive_mem : {x : Group} (g : Group) (hs : List Group) → Mem x (arrive g hs) → (x ≡ g) ⊎ Mem x hs
arrive_mem g [] m = split m
arrive_mem g (h ∷ hs) m = placed_mem g h hs (arrive g hs) (leb g.first h.first) (arrive_mem g hs) m

mem_arrive : {x : Group} (g : Group) (hs : List Group) → (x ≡ g) ⊎ Mem x hs → Mem x (arrive g hs)
mem_arrive g [] (inl e) = here e
mem_arrive g [] (inr m) = later m
mem_arrive g (h ∷ hs) m = mem_placed g h hs (arrive g hs) (leb g.first h.first) (mem_arrive g hs) m

pub by_arrival_mem : {x : Group} (gs : List Group) → Mem x (by_arrival gs) → Mem x gs
by_arrival_mem {x = x} [] m = elim m [ ]
by_arrival_mem {x} (g ∷ gs) m = go (by_arrival_mem gs) (arrive_mem g (by_arrival gs) m)
  where
    go : (Mem x (by_arrival gs) → Mem x gs) → (x ≡ g) ⊎ Mem x (by_arrival gs) → Mem x (g ∷ gs)
    go ih (inl e) = here e
    go ih (inr k) = later (ih k)

pub mem_by_arrival : {x : Group} (gs : List Group) → Mem x gs → Mem x (by_arrival gs)
mem_by_arrival [] x'' = elim x'' [ ]
mem_by_arrival (g ∷ gs) (here e) = mem_arrive g (by_arrival gs) (inl e)
mem_by_arrival (g ∷ gs) (later m) = mem_arrive g (by_arrival gs) (inr (mem_by_arrival gs m))

pub kept_groups_mem : {x : Group} (gs : List Group) → Mem x (kept_groups gs) → Mem x gs
kept_groups_mem {x} gs m = go (leb (length gs) 96) m
  where
    go : (o : Bool) → Mem x (cond o (by_arrival gs) gs) → Mem x gs
    go true k = by_arrival_mem gs k
    go false k = k

-- ── sums ──

abbrev pub sum : (Group → ℕ) → List Group → ℕ
sum m [] = 0
sum m (g ∷ gs) = m g + sum m gs

sum_arrive : (m : Group → ℕ) (g : Group) (hs : List Group) → sum m (arrive g hs) ≡ m g + sum m hs
sum_arrive m g [] = refl
sum_arrive m g (h ∷ hs) = go (leb g.first h.first) (sum_arrive m g hs)
  where
    go : (o : Bool) → sum m (arrive g hs) ≡ m g + sum m hs → sum m (cond o (g ∷ h ∷ hs) (h ∷ arrive g hs)) ≡ m g + (m h + sum m hs)
    go true ih = refl
    go false ih = omega arith

pub sum_by_arrival : (m : Group → ℕ) (gs : List Group) → sum m (by_arrival gs) ≡ sum m gs
sum_by_arrival m [] = refl
sum_by_arrival m (g ∷ gs) = sum_arrive m g (by_arrival gs) ∙ ap (λ (n : ℕ). m g + n) (sum_by_arrival m gs)

-- in either order
pub sum_either : (m : Group → ℕ) (o : Bool) (gs : List Group) → sum m (cond o (by_arrival gs) gs) ≡ sum m gs
sum_either m true gs = sum_by_arrival m gs
sum_either m false gs = refl

length_sum : (gs : List Group) → length gs ≡ sum (λ g. 1) gs
length_sum [] = refl
length_sum (g ∷ gs) = omega (arith, length_sum gs)

pub length_either : (o : Bool) (gs : List Group) → length (cond o (by_arrival gs) gs) ≡ length gs
length_either o gs = length_sum (cond o (by_arrival gs) gs) ∙ sum_either (λ g. 1) o gs ∙ sym (length_sum gs)

-- ── order ──

-- each group arrives before those behind it
abbrev pub Arriving : List Group → Type 0
Arriving [] = Unit {0}
Arriving (g ∷ gs) = ((h : Group) → Mem h gs → g.first < h.first) × Arriving gs

arrive_arriving : (g : Group) (hs : List Group) → ((h : Group) → Mem h hs → ¬ (g.first ≡ h.first)) → Arriving hs → Arriving (arrive g hs)
arrive_arriving g [] n a = ((λ x m. absurd (not-nil m)), tt)
arrive_arriving g (h ∷ hs) n a = go (leb g.first h.first) (le g.first h.first) (arrive_arriving g hs (λ x m. n x (later m)) a.1)
  where
    below_all : g.first ≤ h.first → (x : Group) → Mem x (h ∷ hs) → g.first < x.first
    below_all k x (here e) =
        let f : x.first ≡ h.first = λ i. (e i).first in
        let ne : ¬ (g.first ≡ h.first) = n h (here refl) in
        omega arith
    below_all k x (later m) = omega (arith, a.0 x m)

    above : h.first < g.first → (x : Group) → (x ≡ g) ⊎ Mem x hs → h.first < x.first
    above k x (inl e) =
        let f : x.first ≡ g.first = λ i. (e i).first in
        omega arith
    above k x (inr m) = a.0 x m

    go : (o : Bool) → Le o g.first h.first → Arriving (arrive g hs) → Arriving (cond o (g ∷ h ∷ hs) (h ∷ arrive g hs))
    go true k ih = (below_all k, a)
    go false k ih = ((λ x m. above k x (arrive_mem g hs m)), ih)

pub arriving : (gs : List Group) → Different gs → Arriving (by_arrival gs)
arriving [] a = tt
arriving (g ∷ gs) a = arrive_arriving g (by_arrival gs) (λ h m. a.0 h (by_arrival_mem gs m)) (arriving gs a.1)
