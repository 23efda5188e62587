-- Locations by their address: how many are below a key, and lists at or above it. Assumes nothing.
use Rattle.std.specs.Prelude.{ℕ, suc, ◌+◌, ◌*◌, ◌≤◌, ◌<◌, ◌≡◌, cond, ltb}
use mathlib.Core.List.{List, [], ◌∷◌, Memᴰ}
use Rattle.words.specs.Words.{le64}
use Rattle.definitions.specs.Location.{Location}
use Rattle.location_lists.specs.declared.List.{List as Listing}
use Rattle.joining.specs.Lists.{listed}

-- how many locations at the front have an address below the key
unfoldable pub below_count : ℕ → List Location → ℕ
below_count key [] = 0
below_count key (l ∷ ls) = cond (ltb l.address key) (suc (below_count key ls)) 0

-- no address is below the key
abbrev pub From : ℕ → List Location → Type 0
From key ls = (l : Location) → Memᴰ l ls → key ≤ l.address

-- none of a list has the address key
pub record NoneAt (img : List ℕ) (l : Listing) (key : ℕ) : Type 0 where
  pub none : (m : Location) → Memᴰ m (listed img l) → m.address ≡ key → ⊥

-- location number i of a list is the first with the address key: those before it are the ones below
pub record FirstAt (img : List ℕ) (l : Listing) (key i : ℕ) : Type 0 where
  pub within : i < l.count
  pub has : le64 img (l.at + i * 24) ≡ key
  pub below : i ≡ below_count key (listed img l)
