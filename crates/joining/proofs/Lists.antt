-- A list joined with places, place by place, or with another list, location by location. Assumes nothing.
use Prim.Native.Nat.{ℕ, ◌+◌, ◌-◌, ◌*◌, ◌≤◌, ◌<◌}
use native.Mathlib.Omega.{arith}
use mathlib.Core.Path.{◌≡◌, sym, ap, subst, ◌∙◌}
use Rattle.std.specs.Prelude.{Option, Some, None, ⊤}
use mathlib.Core.Bool.{false}
use mathlib.Core.List.Memᴰ.{append_left}
use mathlib.Core.List.Memᴰ.{not-nil}
use mathlib.Core.List.{List, [], ◌∷◌, ◌++◌, append-nil}
use Rattle.definitions.specs.Location.{Location, location_at, locations_in}
use Rattle.definitions.specs.Places.{joins}
use Rattle.trie.specs.Find.{joins_each}
use Rattle.place_buffer.specs.declared.PlaceSet.{PlaceSet}
use Rattle.place_buffer.specs.Buffer.{Taken}
use Rattle.place_lookup.specs.Lookup.{Within}
use Rattle.definitions.proofs.Locations.{locations_snoc}
use Rattle.place_buffer.proofs.Adding.{taken_none, taken_same, taken_over, taken_more}
use Rattle.place_buffer.proofs.Holding.{taken_location}
use Rattle.joining.proofs.Each.{each_within, each_places, places_each, each_append, none_joined}
use Rattle.joining.proofs.Search.{locations_part}

-- ── place by place: t - from of the places are gone through ──

module _ (k : ℕ) (ls : List Location) (from : ℕ) where
  pub each_start : {p : PlaceSet} (t : ℕ) → p.known.full ≡ false → t ≡ from → Taken p p (joins_each k ls (locations_in p.scratch.now (t - from) (from * 24))) (Some tt)
  unfolding locations_in
  each_start {p} t live e =
      let z : t - from ≡ 0 = omega arith in
      rw z (taken_same (taken_none live) (λ x j. absurd (not-nil j)) (λ x j. absurd (none_joined k ls [] (λ a b c d f. not-nil d) j)))

  module _ (t : ℕ) {p r : PlaceSet} where
    -- a place before the set is read as it was
    pub each_next : {r' : PlaceSet} {o : Option ⊤} {m : Location} → from ≤ t → t < p.known.base → Taken p r (joins_each k ls (locations_in p.scratch.now (t - from) (from * 24))) (Some tt)
        → m ≡ location_at r.scratch.now (t * 24) → Taken r r' (joins_each k ls (m ∷ [])) o → Taken p r' (joins_each k ls (locations_in p.scratch.now (t + 1 - from) (from * 24))) o
    each_next {r'} {o} {m} h b u em w =
        let s = p.scratch.now in
        let e : t + 1 - from ≡ t - from + 1 = omega arith in
        let a : from * 24 + (t - from) * 24 ≡ t * 24 = omega arith in
        let read : m ≡ location_at s (from * 24 + (t - from) * 24) = em ∙ taken_location u (t * 24) (omega arith) ∙ ap (location_at s) (sym a) in
        let more : locations_in s (t + 1 - from) (from * 24) ≡ locations_in s (t - from) (from * 24) ++ (m ∷ []) =
        ap (λ (n : ℕ). locations_in s n (from * 24)) e ∙ locations_snoc (t - from) s (from * 24) ∙ ap (λ (x : Location). locations_in s (t - from) (from * 24) ++ (x ∷ [])) (sym read) in
        subst (λ (ms : List Location). Taken p r' (joins_each k ls ms) o) (sym more)
        (taken_same (taken_more u w) (places_each k ls (locations_in s (t - from) (from * 24)) (m ∷ [])) (each_places k ls (locations_in s (t - from) (from * 24)) (m ∷ [])))

    -- one has no room, whatever else were added
    pub each_refused : (to : ℕ) → from ≤ t → t ≤ to → Taken p r (joins_each k ls (locations_in p.scratch.now (t - from) (from * 24))) None → Taken p r (joins_each k ls (locations_in p.scratch.now (to - from) (from * 24))) None
    each_refused to h j u =
        let s = p.scratch.now in
        let more : locations_in s (to - from) (from * 24) ≡ locations_in s (t - from) (from * 24) ++ locations_in s (to - from - (t - from)) (from * 24 + (t - from) * 24) =
        locations_part s (to - from) (from * 24) (t - from) (omega arith) in
        taken_over u
        (each_within k ls ls (locations_in s (t - from) (from * 24)) (locations_in s (to - from) (from * 24)) (λ x i. i)
        (subst (Within (locations_in s (t - from) (from * 24))) (sym more) (λ x i. append_left (locations_in s (to - from - (t - from)) (from * 24 + (t - from) * 24)) i)))

    pub each_done : {o : Option ⊤} (to : ℕ) → t ≤ to → to ≤ t → Taken p r (joins_each k ls (locations_in p.scratch.now (t - from) (from * 24))) o → Taken p r (joins_each k ls (locations_in p.scratch.now (to - from) (from * 24))) o
    each_done {o} to h j u =
        let e : t ≡ to = omega arith in
        subst (λ (x : ℕ). Taken p r (joins_each k ls (locations_in p.scratch.now (x - from) (from * 24))) o) e u

-- there are no locations
pub each_none : {p : PlaceSet} (img : List ℕ) (n at k : ℕ) (ms : List Location) → p.known.full ≡ false → n ≡ 0 → Taken p p (joins_each k (locations_in img n at) ms) (Some tt)
unfolding locations_in
each_none img n at k ms live e = rw e (taken_none live)

-- ── location by location: u of the n are gone through ──

module _ (k : ℕ) (img : List ℕ) (at : ℕ) (ms : List Location) where
  pub lists_start : {p : PlaceSet} → p.known.full ≡ false → Taken p p (joins_each k (locations_in img 0 at) ms) (Some tt)
  unfolding locations_in
  lists_start live = taken_none live

  module _ (u : ℕ) {p r : PlaceSet} where
    -- one has no room, whatever else were added
    pub lists_refused : (n : ℕ) → u ≤ n → Taken p r (joins_each k (locations_in img u at) ms) None → Taken p r (joins_each k (locations_in img n at) ms) None
    lists_refused n h t =
        let whole : joins_each k (locations_in img n at) ms ≡ joins_each k (locations_in img u at) ms ++ joins_each k (locations_in img (n - u) (at + u * 24)) ms =
        ap (λ (ls : List Location). joins_each k ls ms) (locations_part img n at u h) ∙ each_append k (locations_in img u at) (locations_in img (n - u) (at + u * 24)) ms in
        taken_over t (subst (Within (joins_each k (locations_in img u at) ms)) (sym whole) (λ x i. append_left (joins_each k (locations_in img (n - u) (at + u * 24)) ms) i))

    pub lists_next : {r' : PlaceSet} {o : Option ⊤} {l : Location} → Taken p r (joins_each k (locations_in img u at) ms) (Some tt) → l ≡ location_at img (at + u * 24)
        → Taken r r' (joins l (l.address + k) ms) o → Taken p r' (joins_each k (locations_in img (u + 1) at) ms) o
    lists_next {r'} {o} {l} t e w =
        let whole : joins_each k (locations_in img (u + 1) at) ms ≡ joins_each k (locations_in img u at) ms ++ joins l (l.address + k) ms =
        ap (λ (ls : List Location). joins_each k ls ms) (locations_snoc u img at) ∙ each_append k (locations_in img u at) (location_at img (at + u * 24) ∷ []) ms
        ∙ ap (λ (x : Location). joins_each k (locations_in img u at) ms ++ joins_each k (x ∷ []) ms) (sym e)
        ∙ ap (λ (ls : List Location). joins_each k (locations_in img u at) ms ++ ls) (append-nil (joins l (l.address + k) ms)) in
        subst (λ (ls : List Location). Taken p r' ls o) (sym whole) (taken_more t w)

    pub lists_done : {o : Option ⊤} (n : ℕ) → u ≤ n → n ≤ u → Taken p r (joins_each k (locations_in img u at) ms) o → Taken p r (joins_each k (locations_in img n at) ms) o
    lists_done {o} n h j t =
        let e : u ≡ n = omega arith in
        subst (λ (i : ℕ). Taken p r (joins_each k (locations_in img i at) ms) o) e t
