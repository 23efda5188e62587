-- Places in scratch by their numbers: what tidying makes of them, and when they are a set. Assumes nothing.
use Rattle.std.specs.Prelude.{ℕ, ◌+◌, ◌-◌, ◌*◌, ◌/◌, ◌≤◌, ◌<◌, ◌≡◌, Bool, true, List, [], ◌∷◌, length, get_or}
use Rattle.std.specs.Coded.{Coded-set, coded_ℕ, ×_prop, Π_prop, →_prop, Unit-prop, le_prop}
use Rattle.definitions.specs.Location.{Location, Less, normal, locations_in}
use Rattle.place_lookup.specs.Lookup.{Ascending}

-- s' is s with the places from base to count - 1 sorted, each once; the next one would be number r
pub record Tidied (s s' : List ℕ) (base count r : ℕ) : Type 0 where
  pub next : r ≡ base + length (normal (locations_in s (count - base) (base * 24)))
  pub places : locations_in s' (length (normal (locations_in s (count - base) (base * 24)))) (base * 24) ≡ normal (locations_in s (count - base) (base * 24))
  pub same_length : length s' ≡ length s
  pub before : (k : ℕ) → k < base * 24 → get_or s' k 0 ≡ get_or s k 0
  pub behind : (k : ℕ) → count * 24 ≤ k → get_or s' k 0 ≡ get_or s k 0

-- how many places there can be
abbrev pub room : List ℕ → ℕ
room s = length s / 24

-- the places from base to count - 1 are a set; a tight one ascends, and there is no room behind it
pub record Valid (s : List ℕ) (base count : ℕ) (tight : Bool) : Type 0 where
  pub from : base ≤ count
  pub within : count * 24 ≤ length s
  pub ascending : tight ≡ true → Ascending (locations_in s (count - base) (base * 24))
  pub no_room : tight ≡ true → count ≡ room s

-- ── that a set is one is a fact with at most one proof ──

less_prop : (l m : Location) → IsProp (Less l m)
less_prop l m a b i = record {
  by_address = le_prop a.by_address b.by_address i;
  by_created = →_prop le_prop a.by_created b.by_created i;
  by_destroyed = →_prop (→_prop le_prop) a.by_destroyed b.by_destroyed i;
}

ascending_prop : (ls : List Location) → IsProp (Ascending ls)
ascending_prop [] = Unit-prop
ascending_prop (l ∷ ls) = ×_prop (Π_prop (λ m. →_prop (less_prop l m))) (ascending_prop ls)

pub valid_prop : (s : List ℕ) (base count : ℕ) (tight : Bool) → IsProp (Valid s base count tight)
valid_prop s base count tight a b i = record {
  from = le_prop a.from b.from i;
  within = le_prop a.within b.within i;
  ascending = →_prop (ascending_prop (locations_in s (count - base) (base * 24))) a.ascending b.ascending i;
  no_room = →_prop (Coded-set coded_ℕ count (room s)) a.no_room b.no_room i;
}
