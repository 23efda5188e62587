-- Groups of tails in memory, and where they stand. Assumes nothing.
use Rattle.std.specs.Prelude.{ℕ, ◌+◌, ◌≤◌, ◌<◌, min, ◌≡◌, Bool, length, get_or, eqb}
use mathlib.Core.List.{List, [], ◌∷◌, Memᴰ}
use Rattle.tails.specs.Tails.{Tail}
use Rattle.tails.specs.Groups.{byte_at, Group, groups}
use Rattle.tail_words.specs.Tail.{tail_in, tails_in}
use Rattle.tail_groups.specs.declared.Grouping.{Grouping}

-- the tail has the byte b at d
abbrev pub has_byte : ℕ → ℕ → Tail → Bool
has_byte d b t = eqb (byte_at d t) b

-- the least of a number and some arrival numbers
abbrev pub least : ℕ → List Tail → ℕ
least n [] = n
least n (t ∷ ts) = least (min n t.arrival) ts

-- each tail has a byte d
abbrev pub Longer : ℕ → List Tail → Type 0
Longer d ts = (t : Tail) → Memᴰ t ts → d < length t.entry.path

abbrev pub no_group : Group
no_group = record { byte = 0; first = 0; tails = [] }

-- among the tails number lo to hi - 1, those from a to b - 1 are the group x, and f is its least arrival number
pub record IsGroup (s : List ℕ) (work lo hi d : ℕ) (x : Group) (a b f : ℕ) : Type 0 where
  pub from : lo ≤ a
  pub some : a < b
  pub upto : b ≤ hi
  pub tails : tails_in s work a b ≡ x.tails
  pub byte : byte_at d (tail_in s work a) ≡ x.byte
  pub first : f ≡ x.first

-- the n groups are known: where each begins, the end behind the last, and their least arrival numbers
pub record Grouped (s : List ℕ) (work lo hi d : ℕ) (x : Grouping) (n : ℕ) : Type 0 where
  pub count : n ≡ length (groups d (tails_in s work lo hi))
  pub few : n ≤ 256
  pub room : n ≤ length x.firsts
  pub begins : get_or x.starts 0 0 ≡ lo
  pub ends : get_or x.starts n 0 ≡ hi
  pub each : (g : ℕ) → g < n
      → IsGroup s work lo hi d (get_or (groups d (tails_in s work lo hi)) g no_group) (get_or x.starts g 0) (get_or x.starts (g + 1) 0) (get_or x.firsts g 0)
