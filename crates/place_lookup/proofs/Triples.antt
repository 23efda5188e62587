-- Records of three numbers are locations, and the order of records is that of locations. Assumes nothing.
use Prim.Native.Nat.{ℕ, zero, suc, ◌+◌, compare, Ordering}
use native.Mathlib.Omega.{arith}
use mathlib.Core.Path.{◌≡◌, refl, sym, subst, ◌∙◌}
use mathlib.Core.Bool.{true}
use mathlib.Core.List.Memᴰ.{head as here}
use mathlib.Core.List.Memᴰ.{tail as later}
use mathlib.Core.List.{List, [], ◌∷◌, Memᴰ as Mem}
use Rattle.records.specs.Records.{record_at, records, lex_lt, Ascending}
use Rattle.records.proofs.Order.{clash, lex_less, lex_more, lex_same}
use Rattle.definitions.specs.Location.{Location, or_else, order, is_lt, Sorted, location_at, locations_in, Less}
use Rattle.definitions.proofs.Order.{Tri, tri, Cmp, cmp, less_asym}
use Rattle.place_lookup.proofs.Sets.{less_irrefl}

-- the numbers of a location, as a record
abbrev pub triple : Location → List ℕ
triple l = l.address ∷ l.created ∷ l.destroyed ∷ []

abbrev pub triples : List Location → List (List ℕ)
triples [] = []
triples (l ∷ ls) = triple l ∷ triples ls

-- ── in bytes ──

record_triple : (s : List ℕ) (p : ℕ) → record_at 3 s p ≡ triple (location_at s p)
unfolding record_at
record_triple s p =
    let e : p + 8 + 8 ≡ p + 16 = omega arith in
    rw e

pub records_triples : (n : ℕ) (s : List ℕ) (at : ℕ) → records 3 n s at ≡ triples (locations_in s n at)
unfolding records locations_in
records_triples zero s at = refl
records_triples (suc n) s at =
    let a = record_triple s at in
    let r = records_triples n s (at + 24) in
    cc

-- ── the order ──

lex_order : (l m : Location) → lex_lt (triple l) (triple m) ≡ is_lt (order l m)
unfolding lex_lt
lex_order l m = go (compare l.address m.address) (compare l.created m.created) (compare l.destroyed m.destroyed) (tri l.address m.address) (tri l.created m.created) (tri l.destroyed m.destroyed)
  where
    c : List ℕ
    c = l.created ∷ l.destroyed ∷ []

    c' : List ℕ
    c' = m.created ∷ m.destroyed ∷ []

    d : List ℕ
    d = l.destroyed ∷ []

    d' : List ℕ
    d' = m.destroyed ∷ []

    same : l.address ≡ m.address → l.created ≡ m.created → lex_lt (triple l) (triple m) ≡ lex_lt d d'
    same x y = lex_same l.address m.address c c' (omega arith) (omega arith) ∙ lex_same l.created m.created d d' (omega arith) (omega arith)

    go : (o₁ o₂ o₃ : Ordering) → Tri o₁ l.address m.address → Tri o₂ l.created m.created → Tri o₃ l.destroyed m.destroyed → lex_lt (triple l) (triple m) ≡ is_lt (or_else o₁ (or_else o₂ o₃))
    go Ordering.lt o₂ o₃ x y z = lex_less l.address m.address c c' x
    go Ordering.gt o₂ o₃ x y z = lex_more l.address m.address c c' x
    go Ordering.eq Ordering.lt o₃ x y z = lex_same l.address m.address c c' (omega arith) (omega arith) ∙ lex_less l.created m.created d d' y
    go Ordering.eq Ordering.gt o₃ x y z = lex_same l.address m.address c c' (omega arith) (omega arith) ∙ lex_more l.created m.created d d' y
    go Ordering.eq Ordering.eq Ordering.lt x y z = same x y ∙ lex_less l.destroyed m.destroyed [] [] z
    go Ordering.eq Ordering.eq Ordering.gt x y z = same x y ∙ lex_more l.destroyed m.destroyed [] [] z
    go Ordering.eq Ordering.eq Ordering.eq x y z = same x y ∙ lex_same l.destroyed m.destroyed [] [] (omega arith) (omega arith)

pub is_lt_less : (l m : Location) → is_lt (order l m) ≡ true → Less l m
is_lt_less l m = go (order l m) (cmp l m)
  where
    go : (o : Ordering) → Cmp o l m → is_lt o ≡ true → Less l m
    go Ordering.lt c e = c
    go Ordering.eq c e = clash (sym e)
    go Ordering.gt c e = clash (sym e)

pub less_is_lt : (l m : Location) → Less l m → is_lt (order l m) ≡ true
less_is_lt l m h = go (order l m) (cmp l m)
  where
    go : (o : Ordering) → Cmp o l m → is_lt o ≡ true
    go Ordering.lt c = refl
    go Ordering.eq c = absurd (less_irrefl h c)
    go Ordering.gt c = absurd (less_asym h c)

-- ── ascending lists ──

-- a record of these is the one of a place of these
pub record From (r : List ℕ) (ls : List Location) : Type 0 where
  pub place : Location
  pub listed : Mem place ls
  pub is : r ≡ triple place

pub triples_mem : {r : List ℕ} (ls : List Location) → Mem r (triples ls) → From r ls
triples_mem {r = r} [] x' = elim x' [ ]
triples_mem (l ∷ ls) (here e) = record { place = l; listed = here refl; is = e }
triples_mem (l ∷ ls) (later h) =
    let f = triples_mem ls h in
    record { place = f.place; listed = later f.listed; is = f.is }

pub triples_ascending : (ls : List Location) → Sorted Less ls → Ascending (triples ls)
triples_ascending [] s = tt
triples_ascending (l ∷ ls) s = (first, triples_ascending ls s.1)
  where
    first : (r : List ℕ) → Mem r (triples ls) → lex_lt (triple l) r ≡ true
    first r h =
        let f = triples_mem ls h in
        subst (λ (x : List ℕ). lex_lt (triple l) x ≡ true) (sym f.is) (lex_order l f.place ∙ less_is_lt l f.place (s.0 f.place f.listed))
