-- Sorted locations by their address: those below a key stand first. Assumes nothing.
use Prim.Native.Nat.{ℕ, zero, suc, ◌+◌, ◌-◌, ◌*◌, ◌≤◌, ◌<◌}
use native.Mathlib.Omega.{arith}
use mathlib.Core.Path.{◌≡◌, refl, sym, ap, subst, ◌∙◌}
use mathlib.Core.Bool.{Bool, true, false, cond}
use mathlib.Core.Logic.{◌⊎◌, inl, inr}
use mathlib.Core.List.Memᴰ.{append_cases}
use mathlib.Core.List.Memᴰ.{head as here}
use mathlib.Core.List.Memᴰ.{tail as later}
use mathlib.Core.List.{List, [], ◌∷◌, ◌++◌, Memᴰ as Mem}
use lib.ListN.{length}
use lib.Dec.{ltb}
use borrow.Author.Tests.{ltb-true, ltb-false, lt-ltb}
use Rattle.std.proofs.lemmas.Bool.{cases_lt}
use Rattle.halving.specs.Halving.{Parts, PointOf}
use Rattle.words.specs.Words.{le64}
use Rattle.definitions.specs.Location.{Location, Sorted, location_at, locations_in, Less}
use Rattle.definitions.proofs.Views.{Lt, lt}
use Rattle.definitions.proofs.Locations.{length_locations, locations_append}
use Rattle.joining.specs.Below.{below_count, From}

pub sorted_behind : (xs ys : List Location) → Sorted Less (xs ++ ys) → Sorted Less ys
sorted_behind [] ys s = s
sorted_behind (x ∷ xs) ys s = sorted_behind xs ys s.1

-- none is below the first
pub sorted_from : (l : Location) (ls : List Location) → Sorted Less (l ∷ ls) → From l.address (l ∷ ls)
sorted_from l ls s m (here e) = omega (arith, ap (λ (x : Location). x.address) e)
sorted_from l ls s m (later h) = (s.0 m h).by_address

module _ (key : ℕ) where
  below_le : (ls : List Location) → below_count key ls ≤ length ls
  unfolding below_count
  below_le [] = omega arith
  below_le (l ∷ ls) = go (ltb l.address key) (below_le ls)
    where
      go : (o : Bool) → below_count key ls ≤ length ls → cond o (suc (below_count key ls)) 0 ≤ suc (length ls)
      go true h = omega arith
      go false h = omega arith

  -- as many as are below stand in front, and these are below
  pub front_below : (xs ys : List Location) → below_count key (xs ++ ys) ≡ length xs → (l : Location) → Mem l xs → l.address < key
  unfolding below_count
  front_below [] ys e l h = elim h [ ]
  front_below (x ∷ xs) ys e l h = go (ltb x.address key) (lt x.address key) (front_below xs ys) e h
    where
      go : (o : Bool) → Lt o x.address key → (below_count key (xs ++ ys) ≡ length xs → (m : Location) → Mem m xs → m.address < key)
          → cond o (suc (below_count key (xs ++ ys))) 0 ≡ suc (length xs) → Mem l (x ∷ xs) → l.address < key
      go true t ih e (here q) = omega (arith, ap (λ (y : Location). y.address) q)
      go true t ih e (later j) = ih (omega arith) l j
      go false t ih e j = absurd (omega arith)

  first_from : (ys : List Location) → Sorted Less ys → below_count key ys ≡ 0 → From key ys
  unfolding below_count
  first_from [] s e l h = elim h [ ]
  first_from (y ∷ ys) s e l h = go (ltb y.address key) (lt y.address key) e
    where
      go : (o : Bool) → Lt o y.address key → cond o (suc (below_count key ys)) 0 ≡ 0 → key ≤ l.address
      go true t e = absurd (omega arith)
      go false t e = omega (arith, sorted_from y ys s l h)

  -- the others are not
  pub behind_from : (xs ys : List Location) → Sorted Less (xs ++ ys) → below_count key (xs ++ ys) ≡ length xs → From key ys
  unfolding below_count
  behind_from [] ys s e = first_from ys s e
  behind_from (x ∷ xs) ys s e = go (ltb x.address key) (behind_from xs ys s.1) e
    where
      go : (o : Bool) → (below_count key (xs ++ ys) ≡ length xs → From key ys) → cond o (suc (below_count key (xs ++ ys))) 0 ≡ suc (length xs) → From key ys
      go true ih e = ih (omega arith)
      go false ih e = absurd (omega arith)

-- ── in bytes ──

pub locations_first : (s : List ℕ) (n at : ℕ) → 0 < n → locations_in s n at ≡ location_at s at ∷ locations_in s (n - 1) (at + 24)
unfolding locations_in
locations_first s n at h =
    let e : n ≡ suc (n - 1) = omega arith in
    ap (λ (k : ℕ). locations_in s k at) e

-- the locations in two parts: those below the key, and the others
pub record Parted (s : List ℕ) (n at key i : ℕ) : Type 0 where
  pub le : i ≤ n
  pub whole : locations_in s n at ≡ locations_in s i at ++ locations_in s (n - i) (at + i * 24)
  pub front : (l : Location) → Mem l (locations_in s i at) → l.address < key
  pub behind : From key (locations_in s (n - i) (at + i * 24))
  pub in_order : Sorted Less (locations_in s (n - i) (at + i * 24))

pub locations_part : (s : List ℕ) (n at i : ℕ) → i ≤ n → locations_in s n at ≡ locations_in s i at ++ locations_in s (n - i) (at + i * 24)
locations_part s n at i h =
    let e : n ≡ i + (n - i) = omega arith in
    ap (λ (k : ℕ). locations_in s k at) e ∙ locations_append i (n - i) s at

pub below_listed : (s : List ℕ) (n at key : ℕ) → below_count key (locations_in s n at) ≤ n
below_listed s n at key = omega (arith, below_le key (locations_in s n at), length_locations n s at)

pub parted : (s : List ℕ) (n at key i : ℕ) → Sorted Less (locations_in s n at) → i ≡ below_count key (locations_in s n at) → Parted s n at key i
parted s n at key i up e =
    let le : i ≤ n = omega (arith, below_listed s n at key) in
    let w : locations_in s n at ≡ locations_in s i at ++ locations_in s (n - i) (at + i * 24) = locations_part s n at i le in
    let up' : Sorted Less (locations_in s i at ++ locations_in s (n - i) (at + i * 24)) = subst (Sorted Less) w up in
    let count : below_count key (locations_in s i at ++ locations_in s (n - i) (at + i * 24)) ≡ length (locations_in s i at) = ap (below_count key) (sym w) ∙ sym e ∙ sym (length_locations i s at) in
    record {
      le = le;
      whole = w;
      front = front_below key (locations_in s i at) (locations_in s (n - i) (at + i * 24)) count;
      behind = behind_from key (locations_in s i at) (locations_in s (n - i) (at + i * 24)) up' count;
      in_order = sorted_behind (locations_in s i at) (locations_in s (n - i) (at + i * 24)) up';
    }

-- where the first of the others has another address, none has the key
pub parted_none : {s : List ℕ} {n at key i : ℕ} → Parted s n at key i → (i < n → le64 s (at + i * 24) ≡ key → ⊥) → (m : Location) → Mem m (locations_in s n at) → m.address ≡ key → ⊥
unfolding locations_in
parted_none {s} {n} {at} {key} {i} d ne m h e = go (append_cases (locations_in s i at) (subst (Mem m) d.whole h))
  where
    rest : (k : ℕ) → k ≡ n - i → Mem m (locations_in s k (at + i * 24)) → ⊥
    rest zero z j = elim j [ ]
    rest (suc k) z j =
        let first = locations_first s (n - i) (at + i * 24) (omega arith) in
        let more = locations_in s (n - i - 1) (at + i * 24 + 24) in
        let least : key ≤ le64 s (at + i * 24) = d.behind (location_at s (at + i * 24)) (subst (Mem (location_at s (at + i * 24))) (sym first) (here refl)) in
        let there : Mem m (locations_in s (n - i) (at + i * 24)) = subst (λ (x : ℕ). Mem m (locations_in s x (at + i * 24))) z j in
        let above = sorted_from (location_at s (at + i * 24)) more (subst (Sorted Less) first d.in_order) m (subst (Mem m) first there) in
        ne (omega arith) (omega arith)

    go : Mem m (locations_in s i at) ⊎ Mem m (locations_in s (n - i) (at + i * 24)) → ⊥
    go (inl j) = let b = d.front m j in omega arith
    go (inr j) = rest (n - i) refl j

-- ── the search for the key ──

pub location_listed : (n : ℕ) (s : List ℕ) (at i : ℕ) → i < n → Mem (location_at s (at + i * 24)) (locations_in s n at)
unfolding locations_in
location_listed zero s at i h = absurd (omega arith)
location_listed (suc n) s at zero h = let e : at + 0 * 24 ≡ at = omega arith in rw e (here refl)
location_listed (suc n) s at (suc i) h =
    let e : at + suc i * 24 ≡ at + 24 + i * 24 = omega arith in
    rw e (later (location_listed n s (at + 24) i (omega arith)))

module _ (s : List ℕ) (n at key : ℕ) (up : Sorted Less (locations_in s n at)) where
  abbrev below : ℕ
  below = below_count key (locations_in s n at)

  -- a location with an address below the key is one of those counted
  counted : (i : ℕ) → i < n → le64 s (at + i * 24) < key → i < below
  counted i h l = go (cases_lt i below)
    where
      d : Parted s n at key below
      d = parted s n at key below up refl

      go : (i < below) ⊎ (below ≤ i) → i < below
      go (inl k) = k
      go (inr k) =
          let e : at + below * 24 + (i - below) * 24 ≡ at + i * 24 = omega arith in
          let m : Mem (location_at s (at + i * 24)) (locations_in s (n - below) (at + below * 24)) =
          subst (λ (x : ℕ). Mem (location_at s x) (locations_in s (n - below) (at + below * 24))) e (location_listed (n - below) s (at + below * 24) (i - below) (omega arith)) in
          absurd (omega (arith, d.behind (location_at s (at + i * 24)) m))

  -- one with another is not
  passed : (i : ℕ) → i < n → key ≤ le64 s (at + i * 24) → below ≤ i
  passed i h l = go (cases_lt i below)
    where
      go : (i < below) ⊎ (below ≤ i) → below ≤ i
      go (inr k) = k
      go (inl k) = absurd (omega (arith, (parted s n at key below up refl).front (location_at s (at + i * 24)) (location_listed below s at i k)))

  -- so the search by halves finds the count
  abbrev pub below_key : ℕ → Bool
  below_key i = ltb (le64 s (at + i * 24)) key

  pub key_parts : Parts 0 n below_key
  key_parts i j z h l e =
      let k = counted j l (ltb-true (le64 s (at + j * 24)) key e) in
      lt-ltb (le64 s (at + i * 24)) key ((parted s n at key below up refl).front (location_at s (at + i * 24)) (location_listed below s at i (omega arith)))

  pub key_point : (k : ℕ) → k ≤ n → PointOf 0 n below_key k → k ≡ below
  key_point k h p = go (cases_lt k below) (cases_lt below k)
    where
      le : below ≤ n
      le = below_listed s n at key

      go : (k < below) ⊎ (below ≤ k) → (below < k) ⊎ (k ≤ below) → k ≡ below
      go (inl a) b = absurd (omega (arith, ltb-false (le64 s (at + k * 24)) key (p.ends k (omega arith) (omega (arith, a, le))), (parted s n at key below up refl).front (location_at s (at + k * 24)) (location_listed below s at k a)))
      go (inr a) (inl b) = absurd (omega (arith, counted below (omega (arith, b, h)) (ltb-true (le64 s (at + below * 24)) key (p.holds below (omega arith) b))))
      go (inr a) (inr b) = omega arith
