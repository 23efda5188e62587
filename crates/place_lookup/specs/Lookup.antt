-- Lists of places that ascend: how many come before one, and which are there. Assumes nothing.
use Rattle.std.specs.Prelude.{ℕ, suc, Bool, true, false, cond}
use mathlib.Core.List.{List, [], ◌∷◌, Memᴰ}
use Rattle.definitions.specs.Location.{Location, order, is_lt, Sorted, Less}

-- each place comes before each later one
abbrev pub Ascending : List Location → Type 0
Ascending ls = Sorted Less ls

-- how many places at the front come before l
unfoldable pub before_count : Location → List Location → ℕ
before_count l [] = 0
before_count l (m ∷ ms) = cond (is_lt (order m l)) (suc (before_count l ms)) 0

-- every member of the first list is one of the second
abbrev pub Within : List Location → List Location → Type 0
Within xs ys = (x : Location) → Memᴰ x xs → Memᴰ x ys

-- whether l is one of the places
abbrev pub There : Bool → Location → List Location → Type 0
There true l ls = Memᴰ l ls
There false l ls = Memᴰ l ls → ⊥
