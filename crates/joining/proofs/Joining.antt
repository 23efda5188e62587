-- What one location or place adds that is joined to a list, by the address where the list's begin or end. Assumes nothing.
use Prim.Native.Nat.{ℕ, zero, suc, ◌+◌, ◌-◌, ◌*◌, ◌^◌, ◌≤◌, ◌<◌, min, max}
use native.Mathlib.Omega.{arith}
use mathlib.Core.Path.{◌≡◌, refl, sym, ap, subst, ◌∙◌}
use mathlib.Core.Bool.{Bool, true, false, ◌&&◌, cond}
use mathlib.Core.Option.{none, some}
use mathlib.Core.List.Memᴰ.{append_left}
use mathlib.Core.List.Memᴰ.{cast}
use mathlib.Core.List.Memᴰ.{eq_of_singleton as only_one}
use mathlib.Core.List.Memᴰ.{head as here}
use mathlib.Core.List.Memᴰ.{not-nil}
use mathlib.Core.List.Memᴰ.{tail as later}
use mathlib.Core.List.{List, [], ◌∷◌, ◌++◌, append-nil, Memᴰ as Mem}
use Rattle.std.specs.Prelude.{Option, Some, None, ⊤}
use lib.ListN.{get_or}
use lib.Dec.{eqb}
use borrow.Author.Tests.{eq-eqb, ne_eqb, lt-ltb}
use Rattle.words.proofs.Laws.{le64_lt}
use Rattle.definitions.specs.Location.{Location, Sorted, meets, common, overlap, location_at, locations_in, Less}
use Rattle.definitions.specs.Places.{joins}
use Rattle.definitions.proofs.Views.{overlap_is}
use Rattle.definitions.proofs.Joins.{joins_mem, mem_joins}
use Rattle.trie.specs.Find.{joins_each}
use Rattle.place_buffer.specs.declared.PlaceSet.{PlaceSet}
use Rattle.place_buffer.specs.Buffer.{Taken}
use Rattle.place_lookup.specs.Lookup.{Within}
use Rattle.definitions.proofs.Locations.{locations_snoc}
use Rattle.place_buffer.proofs.Adding.{taken_none, taken_same, taken_over, taken_more}
use Rattle.location_lists.specs.declared.List.{List as Listing}
use Rattle.joining.specs.Lists.{listed}
use Rattle.joining.specs.Below.{below_count, NoneAt, FirstAt}
use Rattle.joining.proofs.Each.{joins_each_mem, mem_joins_each, none_joined}
use Rattle.joining.proofs.Search.{sorted_behind, sorted_from, locations_first, locations_part, location_listed, Parted, parted}

-- ── one location and one place ──

module _ (l m : Location) where
  -- lives that meet
  joins_life : (x : Location) → some x ≡ overlap l m → joins l m.address (m ∷ []) ≡ x ∷ []
  joins_life x e =
      let o = overlap_is l m x (sym e) in
      rw (eq-eqb m.address m.address refl, lt-ltb l.created m.destroyed o.left, lt-ltb m.created l.destroyed o.right) (ap (λ (y : Location). y ∷ []) (sym o.is))

  -- lives that do not
  joins_nothing : none ≡ overlap l m → joins l m.address (m ∷ []) ≡ []
  joins_nothing e = rw (eq-eqb m.address m.address refl) (go (meets l m) e)
    where
      go : (o : Bool) → none ≡ cond o (some (common l m)) none → cond o (common l m ∷ []) [] ≡ []
      go true f = absurd (let z : ◌≡◌ {A = ℕ} 0 1 = cc in omega arith)
      go false f = refl

  pub one_life : {p r : PlaceSet} {o : Option ⊤} (x : Location) → some x ≡ overlap l m → Taken p r (x ∷ []) o → Taken p r (joins l m.address (m ∷ [])) o
  one_life {p} {r} {o} x e t = subst (λ (ls : List Location). Taken p r ls o) (sym (joins_life x e)) t

  pub one_nothing : {p : PlaceSet} → p.known.full ≡ false → none ≡ overlap l m → Taken p p (joins l m.address (m ∷ [])) (Some tt)
  one_nothing {p} live e = subst (λ (ls : List Location). Taken p p ls (Some tt)) (sym (joins_nothing e)) (taken_none live)

-- ── one location and places, one list of them after another ──

module _ (l : Location) (a : ℕ) where
  joins_append : (xs ys : List Location) → joins l a (xs ++ ys) ≡ joins l a xs ++ joins l a ys
  joins_append [] ys = refl
  joins_append (m ∷ xs) ys = go (eqb m.address a && meets l m) (joins_append xs ys)
    where
      go : (o : Bool) → joins l a (xs ++ ys) ≡ joins l a xs ++ joins l a ys → cond o (common l m ∷ joins l a (xs ++ ys)) (joins l a (xs ++ ys)) ≡ cond o (common l m ∷ joins l a xs) (joins l a xs) ++ joins l a ys
      go true e = ap (λ (zs : List Location). common l m ∷ zs) e
      go false e = e

  -- places that begin elsewhere
  joins_none : (ms : List Location) → ((m : Location) → Mem m ms → m.address ≡ a → ⊥) → joins l a ms ≡ []
  joins_none [] f = refl
  joins_none (m ∷ ms) f = rw (ne_eqb m.address a (f m (here refl))) (joins_none ms (λ x h. f x (later h)))

-- ── one location and those of a list at one address: the first i of the n are below it, and j are gone through ──

abbrev pub JoinedTo : (img : List ℕ) (at key : ℕ) (l : Location) (p r : PlaceSet) (j : ℕ) (o : Option ⊤) → Type 0
JoinedTo img at key l p r j o = Taken p r (joins l key (locations_in img j at)) o

module _ (img : List ℕ) (n at key i : ℕ) (d : Parted img n at key i) (l : Location) where
  -- those below the key have another address
  pub key_start : {p : PlaceSet} → p.known.full ≡ false → JoinedTo img at key l p p i (Some tt)
  key_start {p} live =
      let none : joins l key (locations_in img i at) ≡ [] = joins_none l key (locations_in img i at) (λ m j e. omega (arith, d.front m j)) in
      subst (λ (ls : List Location). Taken p p ls (Some tt)) (sym none) (taken_none live)

  module _ (j : ℕ) where
    part : j ≤ n → joins l key (locations_in img n at) ≡ joins l key (locations_in img j at) ++ joins l key (locations_in img (n - j) (at + j * 24))
    part h = ap (joins l key) (locations_part img n at j h) ∙ joins_append l key (locations_in img j at) (locations_in img (n - j) (at + j * 24))

    -- one has no room, whatever else were added
    pub key_refused : {p r : PlaceSet} → j ≤ n → JoinedTo img at key l p r j None → JoinedTo img at key l p r n None
    key_refused h t =
        taken_over t (subst (Within (joins l key (locations_in img j at))) (sym (part h)) (λ x i. append_left (joins l key (locations_in img (n - j) (at + j * 24))) i))

    -- one above the key, and so are all behind it
    pub key_stop : {p r : PlaceSet} {o : Option ⊤} {m : Location} → j < n → Sorted Less (locations_in img n at) → m ≡ location_at img (at + j * 24) → key < m.address
        → JoinedTo img at key l p r j o → JoinedTo img at key l p r n o
    key_stop {p} {r} {o} {m} h up em above t =
        let rest = locations_in img (n - j) (at + j * 24) in
        let first : rest ≡ m ∷ locations_in img (n - j - 1) (at + j * 24 + 24) =
        locations_first img (n - j) (at + j * 24) (omega arith) ∙ ap (λ (x : Location). x ∷ locations_in img (n - j - 1) (at + j * 24 + 24)) (sym em) in
        let order : Sorted Less (m ∷ locations_in img (n - j - 1) (at + j * 24 + 24)) =
        subst (Sorted Less) first (sorted_behind (locations_in img j at) rest (subst (Sorted Less) (locations_part img n at j (omega arith)) up)) in
        let none : joins l key rest ≡ [] =
        joins_none l key rest (λ x i e. omega (arith, sorted_from m (locations_in img (n - j - 1) (at + j * 24 + 24)) order x (subst (Mem x) first i))) in
        let whole : joins l key (locations_in img n at) ≡ joins l key (locations_in img j at) =
        part (omega arith) ∙ ap (λ (ls : List Location). joins l key (locations_in img j at) ++ ls) none ∙ append-nil (joins l key (locations_in img j at)) in
        subst (λ (ls : List Location). Taken p r ls o) (sym whole) t

    -- one at the key was joined
    pub key_next : {p r r' : PlaceSet} {o : Option ⊤} {m : Location} → i ≤ j → j < n → m ≡ location_at img (at + j * 24) → m.address ≤ key
        → JoinedTo img at key l p r j (Some tt) → Taken r r' (joins l m.address (m ∷ [])) o → JoinedTo img at key l p r' (j + 1) o
    key_next {p} {r' = r'} {o = o} {m} f h em le t u =
        let where_it_is : at + i * 24 + (j - i) * 24 ≡ at + j * 24 = omega arith in
        let above : key ≤ m.address = d.behind m (rw (em, ← where_it_is) (location_listed (n - i) img (at + i * 24) (j - i) (omega arith))) in
        let e : m.address ≡ key = omega arith in
        let whole : joins l key (locations_in img (j + 1) at) ≡ joins l key (locations_in img j at) ++ joins l m.address (m ∷ []) =
        ap (joins l key) (locations_snoc j img at) ∙ joins_append l key (locations_in img j at) (location_at img (at + j * 24) ∷ [])
        ∙ ap (λ (x : Location). joins l key (locations_in img j at) ++ joins l key (x ∷ [])) (sym em) ∙ ap (λ (b : ℕ). joins l key (locations_in img j at) ++ joins l b (m ∷ [])) (sym e) in
        subst (λ (ls : List Location). Taken p r' ls o) (sym whole) (taken_more t u)

    pub key_done : {p r : PlaceSet} {o : Option ⊤} → j ≤ n → n ≤ j → JoinedTo img at key l p r j o → JoinedTo img at key l p r n o
    key_done {p} {r} {o} h k t =
        let e : j ≡ n = omega arith in
        subst (λ (i : ℕ). JoinedTo img at key l p r i o) e t

-- none has the address
pub none_joined_to : {img : List ℕ} {list : Listing} {key : ℕ} {p : PlaceSet} (x : Location) → p.known.full ≡ false → NoneAt img list key → Taken p p (joins x key (listed img list)) (Some tt)
none_joined_to {img} {list} {key} {p} x live h = subst (λ (ls : List Location). Taken p p ls (Some tt)) (sym (joins_none x key (listed img list) h.none)) (taken_none live)

-- by the first with the address a list parts
pub parted_at : {img : List ℕ} {list : Listing} {key a i : ℕ} → Sorted Less (listed img list) → FirstAt img list key i → a ≡ key → Parted img list.count list.at a i
parted_at {img} {list} {key} {a} {i} up f e = parted img list.count list.at a i up (f.below ∙ ap (λ (k : ℕ). below_count k (listed img list)) (sym e))

-- the address by another name
pub joined_to_key : (x : Location) (ls : List Location) {p r : PlaceSet} {o : Option ⊤} {a b : ℕ} → a ≡ b → Taken p r (joins x a ls) o → Taken p r (joins x b ls) o
joined_to_key x ls {p} {r} {o} e t = subst (λ (key : ℕ). Taken p r (joins x key ls) o) e t

-- ── one place and the locations of a list ──

-- what two have in common does not tell which came first
common_same : (l m : Location) → common l m ≡ common m l
common_same l m =
    let a : min l.address m.address ≡ min m.address l.address = omega arith in
    let b : max l.created m.created ≡ max m.created l.created = omega arith in
    let c : min l.destroyed m.destroyed ≡ min m.destroyed l.destroyed = omega arith in
    λ i. record { address = a i; created = b i; destroyed = c i }

module _ (k : ℕ) (ls : List Location) (m : Location) {p : PlaceSet} where
  -- it begins before any location of k bytes could end
  pub place_low : p.known.full ≡ false → m.address < k → Taken p p (joins_each k ls (m ∷ [])) (Some tt)
  place_low live h = taken_same (taken_none live) (λ x j. absurd (not-nil j)) (λ x j. absurd (none_joined k ls (m ∷ []) apart j))
    where
      apart : (x y : Location) → Mem x ls → Mem y (m ∷ []) → y.address ≡ x.address + k → ⊥
      apart x y i j e =
          let f : y.address ≡ m.address = ap (λ (z : Location). z.address) (only_one j) in
          omega arith

  -- the locations that end where it begins have one address
  pub place_joined : {r : PlaceSet} {o : Option ⊤} → k ≤ m.address → Taken p r (joins m (m.address - k) ls) o → Taken p r (joins_each k ls (m ∷ [])) o
  place_joined h t = taken_same t to from
    where
      to : Within (joins m (m.address - k) ls) (joins_each k ls (m ∷ []))
      to x i =
          let j = joins_mem m (m.address - k) ls i in
          let e : m.address ≡ j.next.address + k = omega (arith, j.joined.0) in
          mem_joins_each k ls (m ∷ []) (record { left = j.next; left_listed = j.listed; right = m; right_listed = here refl; joined = (e, j.joined.2, j.joined.1); is = j.is ∙ common_same m j.next })

      from : Within (joins_each k ls (m ∷ [])) (joins m (m.address - k) ls)
      from x i =
          let j = joins_each_mem k ls (m ∷ []) i in
          let e : j.right ≡ m = only_one j.right_listed in
          let a = ap (λ (y : Location). y.address) e in
          let b = ap (λ (y : Location). y.created) e in
          let d = ap (λ (y : Location). y.destroyed) e in
          let key : j.left.address ≡ m.address - k = omega (arith, j.joined.0) in
          let ends : m.created < j.left.destroyed = omega (arith, j.joined.2) in
          let begins : j.left.created < m.destroyed = omega (arith, j.joined.1) in
          cast (j.is ∙ ap (common j.left) e ∙ common_same j.left m) (mem_joins m (m.address - k) ls j.left j.left_listed (key, ends, begins))

-- ── one location and the places of a list ──

addresses_fit : (n : ℕ) (img : List ℕ) (at : ℕ) → ((j : ℕ) → get_or img j 0 < 256) → (m : Location) → Mem m (locations_in img n at) → m.address < 2 ^ 64
unfolding locations_in
addresses_fit zero img at b m h = absurd (not-nil h)
addresses_fit (suc n) img at b m (here e) = omega (arith, ap (λ (x : Location). x.address) e, le64_lt img at b)
addresses_fit (suc n) img at b m (later h) = addresses_fit n img (at + 24) b m h

module _ (img : List ℕ) (n at : ℕ) (l : Location) {p : PlaceSet} where
  -- it ends beyond every address
  pub location_far : p.known.full ≡ false → (a : ℕ) → ((j : ℕ) → get_or img j 0 < 256) → 2 ^ 64 ≤ a → Taken p p (joins l a (locations_in img n at)) (Some tt)
  location_far live a b h =
      let none : joins l a (locations_in img n at) ≡ [] = joins_none l a (locations_in img n at) (λ m i e. omega (arith, addresses_fit n img at b m i)) in
      subst (λ (ls : List Location). Taken p p ls (Some tt)) (sym none) (taken_none live)
