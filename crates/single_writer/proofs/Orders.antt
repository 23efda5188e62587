-- Children in another order: sums stay, and by ascending byte they are those of rising groups. Assumes nothing.
use Prim.Native.Nat.{ℕ, zero, suc, ◌+◌, ◌≤◌, ◌<◌}
use native.Mathlib.Nat.{not-suc-le-zero}
use native.Mathlib.Omega.{arith}
use mathlib.Core.Path.{◌≡◌, refl, sym, ap, ◌∙◌}
use mathlib.Core.Bool.{Bool, true, false, cond}
use mathlib.Core.List.Memᴰ.{head as here}
use mathlib.Core.List.Memᴰ.{tail as later}
use mathlib.Core.List.{List, [], ◌∷◌, ◌++◌, Memᴰ as Mem}
use lib.ListN.{length, get_or, take}
use lib.Dec.{eqb, leb, ltb}
use borrow.Author.Tests.{ne_eqb, lt-ltb, le-ltb}
use Rattle.definitions.proofs.Views.{Eq, eq}
use Rattle.trie.specs.Trie.{Node}
use Rattle.tails.specs.Tails.{Tail}
use Rattle.tails.specs.Groups.{Group, arrive, by_arrival, group_forest}
use Rattle.image_format.specs.Image.{Child, as_child, children_of, with_byte, ascending, size_below, children_size}
use Rattle.image_format.proofs.ByByte.{total}
use Rattle.image_format.proofs.Slots.{past_at}
use Rattle.tails.proofs.ByArrival.{by_arrival_mem, sum, sum_either}
use Rattle.tail_groups.specs.Found.{no_group}
use Rattle.single_writer.specs.Kids.{kid, kids, no_child}

-- ── the children of a forest of groups ──

pub forest_kids : (f : List Tail → Node) (gs : List Group) → children_of (group_forest f gs) ≡ kids f gs
unfolding children_of
forest_kids f [] = refl
forest_kids f (g ∷ gs) = ap (λ (ks : List Child). kid f g ∷ ks) (forest_kids f gs)

pub length_kids : (f : List Tail → Node) (gs : List Group) → length (kids f gs) ≡ length gs
length_kids f [] = refl
length_kids f (g ∷ gs) = ap suc (length_kids f gs)

pub get_or_kids : (f : List Tail → Node) (gs : List Group) (i : ℕ) → i < length gs → get_or (kids f gs) i no_child ≡ kid f (get_or gs i no_group)
get_or_kids f [] i h = absurd (not-suc-le-zero h)
get_or_kids f (g ∷ gs) zero h = refl
get_or_kids f (g ∷ gs) (suc i) h = get_or_kids f gs i (omega arith)

pub kid_byte : (f : List Tail → Node) (g : Group) → (kid f g).byte ≡ g.byte
unfolding as_child
kid_byte f g = refl

-- ── sums ──

total_sum : (f : List Tail → Node) (m : Child → ℕ) (gs : List Group) → total m (kids f gs) ≡ sum (λ g. m (kid f g)) gs
unfolding total
total_sum f m [] = refl
total_sum f m (g ∷ gs) = ap (λ (n : ℕ). m (kid f g) + n) (total_sum f m gs)

-- by arrival, or as they stand
pub total_either : (f : List Tail → Node) (m : Child → ℕ) (o : Bool) (gs : List Group) → total m (kids f (cond o (by_arrival gs) gs)) ≡ total m (kids f gs)
total_either f m o gs = total_sum f m (cond o (by_arrival gs) gs) ∙ sum_either (λ g. m (kid f g)) o gs ∙ sym (total_sum f m gs)

pub below_total : (b : ℕ) (ks : List Child) → size_below b ks ≡ total (λ k. cond (ltb k.byte b) (1 + k.size) 0) ks
unfolding total size_below
below_total b [] = refl
below_total b (k ∷ ks) = ap (λ (n : ℕ). cond (ltb k.byte b) (1 + k.size) 0 + n) (below_total b ks)

pub below_by_arrival : (f : List Tail → Node) (b : ℕ) (gs : List Group) → size_below b (kids f (by_arrival gs)) ≡ size_below b (kids f gs)
below_by_arrival f b gs =
    below_total b (kids f (by_arrival gs)) ∙ total_either f (λ k. cond (ltb k.byte b) (1 + k.size) 0) true gs ∙ sym (below_total b (kids f gs))

-- ── by ascending byte ──

-- no two groups have one byte
abbrev pub Apart : List Group → Type 0
Apart [] = Unit {0}
Apart (g ∷ gs) = ((h : Group) → Mem h gs → ¬ (g.byte ≡ h.byte)) × Apart gs

-- bytes from b on, each above the one before, below 256
abbrev pub Climbs : ℕ → List Child → Type 0
Climbs b [] = Unit {0}
Climbs b (k ∷ ks) = (b ≤ k.byte) × (k.byte < 256) × Climbs (k.byte + 1) ks

pub climbs_less : (b c : ℕ) (ks : List Child) → c ≤ b → Climbs b ks → Climbs c ks
climbs_less b c [] h r = tt
climbs_less b c (k ∷ ks) h r = (omega (arith, r.0), r.1, r.2)

pub climbs_none : (b c : ℕ) (ks : List Child) → c < b → Climbs b ks → with_byte c ks ≡ []
unfolding with_byte
climbs_none b c [] h r = refl
climbs_none b c (k ∷ ks) h r = rw (ne_eqb k.byte c (omega (arith, r.0))) (climbs_none (k.byte + 1) c ks (omega (arith, r.0)) r.2)

-- one that is passed is not met again
past_ascending : (m b : ℕ) (k : Child) (ks : List Child) → k.byte < b → ascending m b (k ∷ ks) ≡ ascending m b ks
unfolding ascending
past_ascending zero b k ks h = refl
past_ascending (suc m) b k ks h =
    let e = past_at b k ks h in
    let r = past_ascending m (b + 1) k ks (omega arith) in
    cc

pub ascending_climbs : (m b : ℕ) (ks : List Child) → b + m ≡ 256 → Climbs b ks → ascending m b ks ≡ ks
unfolding ascending with_byte
ascending_climbs zero b [] h r = refl
ascending_climbs zero b (k ∷ ks) h r = absurd (omega (arith, r.0, r.1))
ascending_climbs (suc m) b ks h r = turn b m ks r (λ l q. ascending_climbs m (b + 1) l (omega arith) q)
  where
    turn : (b m : ℕ) (ks : List Child) → Climbs b ks → ((l : List Child) → Climbs (b + 1) l → ascending m (b + 1) l ≡ l) → with_byte b ks ++ ascending m (b + 1) ks ≡ ks
    turn b m [] r ih = ih [] tt
    turn b m (k ∷ ks) r ih = go (eqb k.byte b) (eq k.byte b)
      where
        go : (o : Bool) → Eq o k.byte b → cond o (k ∷ with_byte b ks) (with_byte b ks) ++ ascending m (b + 1) (k ∷ ks) ≡ k ∷ ks
        go true e =
            let none : with_byte b ks ≡ [] = climbs_none (k.byte + 1) b ks (omega arith) r.2 in
            let past = past_ascending m (b + 1) k ks (omega arith) in
            let rest = ih ks (climbs_less (k.byte + 1) (b + 1) ks (omega arith) r.2) in
            rw (none, past, rest)
        go false e =
            let none : with_byte b ks ≡ [] = climbs_none (k.byte + 1) b ks (omega (arith, r.0)) r.2 in
            let rest = ih (k ∷ ks) (omega (arith, r.0, e), r.1, r.2) in
            rw (none, rest)

-- a group put among others: each byte has the child that it had
module _ (f : List Tail → Node) (b : ℕ) where
  with_arrive : (g : Group) (hs : List Group) → ((h : Group) → Mem h hs → ¬ (g.byte ≡ h.byte)) → with_byte b (kids f (arrive g hs)) ≡ with_byte b (kids f (g ∷ hs))
  unfolding with_byte as_child
  with_arrive g [] n = refl
  with_arrive g (h ∷ hs) n = go (leb g.first h.first) (eqb g.byte b) (eqb h.byte b) refl refl (eq g.byte b) (eq h.byte b) (with_arrive g hs (λ x m. n x (later m)))
    where
      go : (o p q : Bool) → eqb g.byte b ≡ p → eqb h.byte b ≡ q → Eq p g.byte b → Eq q h.byte b → with_byte b (kids f (arrive g hs)) ≡ cond (eqb g.byte b) (kid f g ∷ with_byte b (kids f hs)) (with_byte b (kids f hs))
          → with_byte b (kids f (cond o (g ∷ h ∷ hs) (h ∷ arrive g hs))) ≡ cond (eqb g.byte b) (kid f g ∷ with_byte b (kids f (h ∷ hs))) (with_byte b (kids f (h ∷ hs)))
      go true p q u v x y ih = refl
      go false true true u v x y ih = absurd (n h (here refl) (omega arith))
      go false true false u v x y ih = rw (v, ih, u)
      go false false true u v x y ih = rw (v, ih, u)
      go false false false u v x y ih = rw (v, ih, u)

  -- no two groups have one byte
  with_by_arrival : (gs : List Group) → Apart gs → with_byte b (kids f (by_arrival gs)) ≡ with_byte b (kids f gs)
  unfolding with_byte
  with_by_arrival [] a = refl
  with_by_arrival (g ∷ gs) a =
      with_arrive g (by_arrival gs) (λ h m. a.0 h (by_arrival_mem gs m)) ∙ ap (λ (ks : List Child). cond (eqb (kid f g).byte b) (kid f g ∷ ks) ks) (with_by_arrival gs a.1)

pub ascending_by_arrival : (f : List Tail → Node) (m b : ℕ) (gs : List Group) → Apart gs → ascending m b (kids f (by_arrival gs)) ≡ ascending m b (kids f gs)
unfolding ascending
ascending_by_arrival f zero b gs a = refl
ascending_by_arrival f (suc m) b gs a =
    let e = with_by_arrival f b gs a in
    let r = ascending_by_arrival f m (b + 1) gs a in
    cc

-- below the byte of a child are those before it
pub below_climbs : (b : ℕ) (ks : List Child) (i : ℕ) → Climbs b ks → i < length ks → size_below (get_or ks i no_child).byte ks ≡ children_size (take i ks)
unfolding size_below children_size
below_climbs b [] i r h = absurd (not-suc-le-zero h)
below_climbs b (k ∷ ks) zero r h =
    rw (le-ltb k.byte k.byte (omega arith)) (omega (arith, none k.byte (k.byte + 1) ks (omega arith) r.2))
  where
    none : (c b : ℕ) (ks : List Child) → c ≤ b → Climbs b ks → size_below c ks ≡ 0
    none c b [] h r = refl
    none c b (k ∷ ks) h r = rw (le-ltb k.byte c (omega (arith, r.0))) (omega (arith, none c (k.byte + 1) ks (omega (arith, r.0)) r.2))
below_climbs b (k ∷ ks) (suc i) r h =
    rw (lt-ltb k.byte (get_or ks i no_child).byte (omega (arith, least (k.byte + 1) ks i r.2 (omega arith)))) (ap (λ (n : ℕ). 1 + k.size + n) (below_climbs (k.byte + 1) ks i r.2 (omega arith)))
  where
    least : (b : ℕ) (ks : List Child) (i : ℕ) → Climbs b ks → i < length ks → b ≤ (get_or ks i no_child).byte
    least b [] i r h = absurd (not-suc-le-zero h)
    least b (k ∷ ks) zero r h = r.0
    least b (k ∷ ks) (suc i) r h = omega (arith, r.0, least (k.byte + 1) ks i r.2 (omega arith))
