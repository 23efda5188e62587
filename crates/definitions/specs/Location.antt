-- Document 01, "Location": where something stands, from which tick on and until which; the order of locations; overlap.
-- Assumes nothing.
use Prim.Native.Nat.{ℕ, zero, suc, ◌+◌, ◌≤◌, ◌<◌, min, max, compare, Ordering}
use Rattle.std.specs.Prelude.{◌≡◌, Bool, true, false, ◌&&◌, cond, ltb}
use mathlib.Core.List.{List, [], ◌∷◌, ◌++◌, Memᴰ}
use Rattle.std.proofs.Math.Option.{Option, none, some}
use Rattle.words.specs.Words.{le64, bytes64}

pub record Location : Type 0 where
  pub address : ℕ
  pub created : ℕ
  pub destroyed : ℕ

-- by its numbers
abbrev pub location : (address created destroyed : ℕ) → Location
location a c d = record { address = a; created = c; destroyed = d }

-- it lives at ticks t with created <= t < destroyed
pub record Lives (l : Location) (t : ℕ) : Type 0 where
  pub from : l.created ≤ t
  pub till : t < l.destroyed

-- the same life, n bytes further on: an address is added only to byte counts, a tick to nothing
abbrev pub moved : Location → ℕ → Location
moved l n = record { address = l.address + n; created = l.created; destroyed = l.destroyed }

-- ── overlap ──

-- created < other's end, and end > other's creation
abbrev pub meets : Location → Location → Bool
meets l m = ltb l.created m.destroyed && ltb m.created l.destroyed

-- least address, later creation, earlier end
abbrev pub common : Location → Location → Location
common l m = record { address = min l.address m.address; created = max l.created m.created; destroyed = min l.destroyed m.destroyed }

-- the overlap of two locations, or none
abbrev pub overlap : Location → Location → Option Location
overlap l m = cond (meets l m) (some (common l m)) none

-- ── the order: address, created, destroyed ──

-- the first of two comparisons decides, unless it says equal
abbrev pub or_else : Ordering → Ordering → Ordering
or_else Ordering.lt o = Ordering.lt
or_else Ordering.eq o = o
or_else Ordering.gt o = Ordering.gt

abbrev pub order : Location → Location → Ordering
order l m = or_else (compare l.address m.address) (or_else (compare l.created m.created) (compare l.destroyed m.destroyed))

-- whether a comparison says: the first comes before the second
abbrev pub is_lt : Ordering → Bool
is_lt Ordering.lt = true
is_lt Ordering.eq = false
is_lt Ordering.gt = false

-- the first comes before the second, as facts on their numbers
pub record Less (l m : Location) : Type 0 where
  pub by_address : l.address ≤ m.address
  pub by_created : l.address ≡ m.address → l.created ≤ m.created
  pub by_destroyed : l.address ≡ m.address → l.created ≡ m.created → l.destroyed < m.destroyed

-- every member stands in R to each one behind it
abbrev pub Sorted : (Location → Location → Type 0) → List Location → Type 0
Sorted R [] = Unit {0}
Sorted R (l ∷ ls) = ((m : Location) → Memᴰ m ls → R l m) × Sorted R ls

-- l put into a sorted list without repeats, whose insertion further back is r; what is there already is not put in again
abbrev pub placed : Ordering → Location → Location → List Location → List Location → List Location
placed Ordering.lt l m ms r = l ∷ m ∷ ms
placed Ordering.eq l m ms r = m ∷ ms
placed Ordering.gt l m ms r = m ∷ r

abbrev pub insert : Location → List Location → List Location
insert l [] = l ∷ []
insert l (m ∷ ms) = placed (order l m) l m ms (insert l ms)

-- the members of a list, sorted, each once
abbrev pub normal : List Location → List Location
normal [] = []
normal (l ∷ ls) = insert l (normal ls)

-- ── in files: 24 bytes, little-endian ──

-- the location in the 24 bytes from index p on
abbrev pub location_at : List ℕ → ℕ → Location
location_at s p = record { address = le64 s p; created = le64 s (p + 8); destroyed = le64 s (p + 16) }

abbrev pub location_bytes : Location → List ℕ
location_bytes l = bytes64 l.address ++ bytes64 l.created ++ bytes64 l.destroyed

-- n locations from index p on
unfoldable pub locations_in : List ℕ → ℕ → ℕ → List Location
locations_in s zero p = []
locations_in s (suc n) p = location_at s p ∷ locations_in s n (p + 24)

unfoldable pub locations_bytes : List Location → List ℕ
locations_bytes [] = []
locations_bytes (l ∷ ls) = location_bytes l ++ locations_bytes ls
