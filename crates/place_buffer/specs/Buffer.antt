-- A set of places: what it holds, what tidying and adding to it do, and when it is refused. Assumes nothing.
use Rattle.std.specs.Prelude.{ℕ, ◌-◌, ◌*◌, ◌<◌, ◌≡◌, true, false, List, [], ◌∷◌, ◌++◌, length, get_or, Option, None, MatchOption, ⊤}
use Rattle.std.specs.Borrow.{MutBor}
use Rattle.definitions.specs.Location.{Location, normal, locations_in}
use Rattle.place_lookup.specs.Lookup.{Within}
use Rattle.place_buffer.specs.declared.PlaceSet.{PlaceSet}
use Rattle.place_buffer.specs.Scratch.{Tidied, room}

-- the places of the set
abbrev pub held : PlaceSet → List Location
held p = locations_in p.scratch.now (p.known.count - p.known.base) (p.known.base * 24)

-- p is an empty set in s, behind place number base
pub record Behind (s : MutBor (List ℕ)) (base : ℕ) (p : PlaceSet) : Type 0 where
  pub same_reference : p.scratch.ghost_name ≡ s.ghost_name
  pub same_bytes : p.scratch.now ≡ s.now
  pub from : p.known.base ≡ base
  pub empty : p.known.count ≡ base
  pub loose : p.known.tight ≡ false
  pub live : p.known.full ≡ false

-- the set r is p with its places sorted, each once
pub record TidiedTo (p r : PlaceSet) : Type 0 where
  pub same_reference : r.scratch.ghost_name ≡ p.scratch.ghost_name
  pub same_base : r.known.base ≡ p.known.base
  pub loose : r.known.tight ≡ false
  pub same_full : r.known.full ≡ p.known.full
  pub tidied : Tidied p.scratch.now r.scratch.now p.known.base p.known.count r.known.count

-- the set r has the places of the set p and the places ls, and is not refused
pub record Added (p : PlaceSet) (ls : List Location) (r : PlaceSet) : Type 0 where
  pub only : Within (held r) (ls ++ held p)
  pub all : Within (ls ++ held p) (held r)
  pub live : r.known.full ≡ false

-- behind place number base there is no room for a set of the places xs
abbrev pub Over : List ℕ → ℕ → List Location → Type 0
Over s base xs = room s - base < length (normal xs)

-- the set r is refused: a place of ls had no room, or p was refused before
pub record Refused (p : PlaceSet) (ls : List Location) (r : PlaceSet) : Type 0 where
  pub full : r.known.full ≡ true
  pub over : p.known.full ≡ false → Over p.scratch.now p.known.base (ls ++ held p)

-- adding the places ls to the set p made r of it, or o is None: it is refused, and stays so
pub record Taken (p r : PlaceSet) (ls : List Location) (o : Option ⊤) : Type 0 where
  pub same_reference : r.scratch.ghost_name ≡ p.scratch.ghost_name
  pub same_base : r.known.base ≡ p.known.base
  pub same_length : length r.scratch.now ≡ length p.scratch.now
  pub before : (k : ℕ) → k < p.known.base * 24 → get_or r.scratch.now k 0 ≡ get_or p.scratch.now k 0
  pub stays_full : p.known.full ≡ true → (r ≡ p) × (o ≡ None)
  pub set : MatchOption o (Refused p ls r) (λ _. Added p ls r)

-- the same of one place
abbrev pub Placed : PlaceSet → PlaceSet → Location → Option ⊤ → Type 0
Placed p r l o = Taken p r (l ∷ []) o
