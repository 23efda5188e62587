-- Tails with different arrival numbers have groups with different least ones, and tails in order by a byte have at most 256 groups.
-- Assumes nothing.
use Prim.Native.Nat.{ℕ, suc, ◌+◌, ◌≤◌, ◌<◌, min}
use native.Mathlib.Omega.{arith}
use mathlib.Core.Path.{◌≡◌, refl, sym, ap, subst, ◌∙◌}
use mathlib.Core.Bool.{Bool, true, false, cond}
use mathlib.Core.Logic.{◌⊎◌, inl, inr}
use mathlib.Core.List.Memᴰ.{append_left}
use mathlib.Core.List.Memᴰ.{head as here}
use mathlib.Core.List.Memᴰ.{not-nil}
use mathlib.Core.List.Memᴰ.{tail as later}
use mathlib.Core.List.{List, [], ◌∷◌, ◌++◌, Memᴰ as Mem}
use lib.ListN.{length, get_or}
use lib.Dec.{eqb}
use borrow.Author.Tests.{eq-eqb, ne_eqb}
use Rattle.definitions.proofs.Views.{Eq, eq}
use Rattle.trie.specs.Build.{Entry}
use Rattle.records.specs.Records.{sorted}
use Rattle.records.proofs.Lists.{sum_of, sorted_same}
use Rattle.tails.specs.Tails.{Tail, numbered, tail_record, tail_records}
use Rattle.tails.specs.Groups.{byte_at, Group, into_group, groups, Different}
use Rattle.tails.proofs.Grouped.{numbered_from}
use Rattle.tail_words.specs.Tail.{tails_in}
use Rattle.tail_groups.specs.Ranks.{Apart}
use Rattle.tail_groups.proofs.Memory.{tails_split}

-- ── arrival numbers ──

-- a tail with the least arrival number of a group
record Earliest (g : Group) (ts : List Tail) : Type 0 where
  tail : Tail
  listed : Mem tail ts
  is : tail.arrival ≡ g.first

one_more : {g : Group} {t : Tail} {ts : List Tail} → Earliest g ts → Earliest g (t ∷ ts)
one_more w = record { tail = w.tail; listed = later w.listed; is = w.is }

smaller : (a b : ℕ) → (min a b ≡ a) ⊎ (min a b ≡ b)
smaller a b = go (eqb (min a b) a) (eq (min a b) a)
  where
    go : (o : Bool) → Eq o (min a b) a → (min a b ≡ a) ⊎ (min a b ≡ b)
    go true e = inl e
    go false e = inr (omega arith)

abbrev fresh : ℕ → Tail → Group
fresh d t = record { byte = byte_at d t; first = t.arrival; tails = t ∷ [] }

abbrev joined : Tail → Group → Group
joined t g = record { byte = g.byte; first = min t.arrival g.first; tails = t ∷ g.tails }

abbrev Early : List Group → List Tail → Type 0
Early gs ts = (g : Group) → Mem g gs → Earliest g ts

into_early : (d : ℕ) (t : Tail) (ts : List Tail) (gs : List Group) → Early gs ts → Early (into_group d t gs) (t ∷ ts)
into_early d t ts [] f g (here e) = record { tail = t; listed = here refl; is = ap (λ (x : Group). x.first) (sym e) }
into_early d t ts [] f g (later m) = absurd (not-nil m)
into_early d t ts (h ∷ hs) f g m = go (eqb (byte_at d t) h.byte) m
  where
    both : (min t.arrival h.first ≡ t.arrival) ⊎ (min t.arrival h.first ≡ h.first) → g ≡ joined t h → Earliest g (t ∷ ts)
    both (inl e) p = record { tail = t; listed = here refl; is = sym (ap (λ (x : Group). x.first) p ∙ e) }
    both (inr e) p =
        let w = f h (here refl) in
        record { tail = w.tail; listed = later w.listed; is = w.is ∙ sym (ap (λ (x : Group). x.first) p ∙ e) }

    go : (o : Bool) → Mem g (cond o (joined t h ∷ hs) (fresh d t ∷ h ∷ hs)) → Earliest g (t ∷ ts)
    go true (here e) = both (smaller t.arrival h.first) e
    go true (later k) = one_more (f g (later k))
    go false (here e) = record { tail = t; listed = here refl; is = ap (λ (x : Group). x.first) (sym e) }
    go false (later k) = one_more (f g k)

early : (d : ℕ) (ts : List Tail) → Early (groups d ts) ts
early d [] g m = absurd (not-nil m)
early d (t ∷ ts) g m = into_early d t ts (groups d ts) (early d ts) g m

pub groups_different : (d : ℕ) (ts : List Tail) → Apart ts → Different (groups d ts)
groups_different d [] a = tt
groups_different d (t ∷ ts) a = go (groups d ts) (early d ts) (groups_different d ts a.1)
  where
    other : {h : Group} → Earliest h ts → ¬ (t.arrival ≡ h.first)
    other w e = a.0 w.tail w.listed (e ∙ sym w.is)

    go : (gs : List Group) → Early gs ts → Different gs → Different (into_group d t gs)
    go [] f r = ((λ h m. absurd (not-nil m)), tt)
    go (g ∷ gs) f r = at (eqb (byte_at d t) g.byte)
      where
        apart : (h : Group) → Mem h gs → (min t.arrival g.first ≡ t.arrival) ⊎ (min t.arrival g.first ≡ g.first) → ¬ (min t.arrival g.first ≡ h.first)
        apart h m (inl e) p = other (f h (later m)) (sym e ∙ p)
        apart h m (inr e) p = r.0 h m (sym e ∙ p)

        at : (o : Bool) → Different (cond o (joined t g ∷ gs) (fresh d t ∷ g ∷ gs))
        at true = ((λ h m. apart h m (smaller t.arrival g.first)), r.1)
        at false = ((λ h m. other (f h m)), r)

-- ── tails with different arrival numbers ──

apart_left : (ts us : List Tail) → Apart (ts ++ us) → Apart ts
apart_left [] us a = tt
apart_left (t ∷ ts) us a = ((λ u m. a.0 u (append_left us m)), apart_left ts us a.1)

apart_right : (ts us : List Tail) → Apart (ts ++ us) → Apart us
apart_right [] us a = a
apart_right (t ∷ ts) us a = apart_right ts us a.1

-- a part of the tails in memory
pub apart_part : (s : List ℕ) (work lo hi lo' hi' : ℕ) → Apart (tails_in s work lo hi) → lo ≤ lo' → lo' ≤ hi' → hi' ≤ hi → Apart (tails_in s work lo' hi')
apart_part s work lo hi lo' hi' a p q r =
    let b = apart_right (tails_in s work lo lo') (tails_in s work lo' hi) (subst Apart (tails_split s work lo lo' hi p (omega arith)) a) in
    apart_left (tails_in s work lo' hi') (tails_in s work hi' hi) (subst Apart (tails_split s work lo' hi' hi q r) b)

pub numbered_apart : (n : ℕ) (es : List Entry) → Apart (numbered n es)
numbered_apart n [] = tt
numbered_apart n (e ∷ es) = ((λ u m. λ p. absurd (omega (arith, numbered_from (suc n) es m))), numbered_apart (suc n) es)

-- how many records have the arrival number a
abbrev arrived : ℕ → List ℕ → ℕ
arrived a r = cond (eqb (get_or r 6 0) a) 1 0

absent : (a : ℕ) (ts : List Tail) → ((u : Tail) → Mem u ts → ¬ (a ≡ u.arrival)) → sum_of (arrived a) (tail_records ts) ≡ 0
unfolding sum_of
absent a [] f = refl
absent a (t ∷ ts) f =
    rw (ne_eqb t.arrival a (λ e. f t (here refl) (sym e))) (omega (arith, absent a ts (λ u m. f u (later m))))

apart_once : (a : ℕ) (ts : List Tail) → Apart ts → sum_of (arrived a) (tail_records ts) ≤ 1
unfolding sum_of
apart_once a [] d = omega arith
apart_once a (t ∷ ts) d = go (eqb t.arrival a) (eq t.arrival a) (apart_once a ts d.1)
  where
    go : (o : Bool) → Eq o t.arrival a → sum_of (arrived a) (tail_records ts) ≤ 1 → cond o 1 0 + sum_of (arrived a) (tail_records ts) ≤ 1
    go true e ih = omega (arith, absent a ts (λ u m p. d.0 u m (e ∙ p)))
    go false e ih = omega arith

present : (a : ℕ) (ts : List Tail) (u : Tail) → Mem u ts → u.arrival ≡ a → 1 ≤ sum_of (arrived a) (tail_records ts)
unfolding sum_of
present a [] u x'' p = elim x'' [ ]
present a (t ∷ ts) u (here e) p = rw (eq-eqb t.arrival a (ap (λ (v : Tail). v.arrival) (sym e) ∙ p)) (omega arith)
present a (t ∷ ts) u (later m) p = omega (arith, present a ts u m p)

once_apart : (ts : List Tail) → ((a : ℕ) → sum_of (arrived a) (tail_records ts) ≤ 1) → Apart ts
unfolding sum_of
once_apart [] f = tt
once_apart (t ∷ ts) f = ((λ u m p. twice u m p), once_apart ts (λ a. omega (arith, f a)))
  where
    twice : (u : Tail) → Mem u ts → t.arrival ≡ u.arrival → ⊥
    twice u m p =
        let one : arrived t.arrival (tail_record t) ≡ 1 = rw (eq-eqb t.arrival t.arrival refl) in
        omega (arith, f t.arrival, present t.arrival ts u m (sym p), one)

-- sorting keeps the arrival numbers
pub apart_sorted : (ts us : List Tail) → tail_records ts ≡ sorted (tail_records us) → Apart us → Apart ts
apart_sorted ts us e a =
    once_apart ts (λ n. subst (λ (k : ℕ). k ≤ 1) (sym (ap (sum_of (arrived n)) e ∙ (sorted_same (tail_records us)).sums (arrived n))) (apart_once n us a))

-- ── how many groups ──

-- each tail has at most the byte of each one behind it
abbrev pub ByByte : ℕ → List Tail → Type 0
ByByte d [] = Unit {0}
ByByte d (t ∷ ts) = ((u : Tail) → Mem u ts → byte_at d t ≤ byte_at d u) × ByByte d ts

-- bytes from b on, each above the one before
abbrev Climbs : ℕ → List Group → Type 0
Climbs b [] = Unit {0}
Climbs b (g ∷ gs) = (b ≤ g.byte) × (g.byte < 256) × Climbs (suc g.byte) gs

climbs_length : (b : ℕ) (gs : List Group) → b ≤ 256 → Climbs b gs → length gs + b ≤ 256
climbs_length b [] h c = omega arith
climbs_length b (g ∷ gs) h c = omega (arith, c.0, climbs_length (suc g.byte) gs (omega (arith, c.1)) c.2)

into_climbs : (d b : ℕ) (t : Tail) (gs : List Group) → b ≤ byte_at d t → byte_at d t < 256 → Climbs (byte_at d t) gs → Climbs b (into_group d t gs)
into_climbs d b t [] h k c = (h, k, tt)
into_climbs d b t (g ∷ gs) h k c = go (eqb (byte_at d t) g.byte) (eq (byte_at d t) g.byte)
  where
    go : (o : Bool) → Eq o (byte_at d t) g.byte → Climbs b (cond o (joined t g ∷ gs) (fresh d t ∷ g ∷ gs))
    go true e = (omega (arith, c.0), c.1, c.2)
    go false e = (h, k, (omega (arith, c.0, e), c.1, c.2))

climbs : (d b : ℕ) (ts : List Tail) → ByByte d ts → ((t : Tail) → Mem t ts → (b ≤ byte_at d t) × (byte_at d t < 256)) → Climbs b (groups d ts)
climbs d b [] o f = tt
climbs d b (t ∷ ts) o f =
    let x = f t (here refl) in
    into_climbs d b t (groups d ts) x.0 x.1 (climbs d (byte_at d t) ts o.1 (λ u m. (o.0 u m, (f u (later m)).1)))

pub few_groups : (d : ℕ) (ts : List Tail) → ByByte d ts → ((t : Tail) → Mem t ts → byte_at d t < 256) → length (groups d ts) ≤ 256
few_groups d ts o f = omega (arith, climbs_length 0 (groups d ts) (omega arith) (climbs d 0 ts o (λ t m. (omega arith, f t m))))
