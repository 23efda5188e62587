-- Sorted tails that share their first bytes. Assumes nothing.
use Rattle.std.specs.Prelude.{ℕ, ◌≤◌, ◌<◌, ◌≡◌, length, get_or}
use mathlib.Core.List.{List, [], ◌∷◌, Memᴰ as Mem}
use Rattle.records.specs.Records.{Le}
use Rattle.tails.specs.Tails.{Tail, tail_record}

-- the same bytes below place n
abbrev pub Agree : ℕ → List ℕ → List ℕ → Type 0
Agree n xs ys = (k : ℕ) → k < n → get_or xs k 0 ≡ get_or ys k 0

-- at most 16 bytes, each below 256
pub record SoundPath (path : List ℕ) : Type 0 where
  pub short : length path ≤ 16
  pub bytes : (b : ℕ) → Mem b path → b < 256

-- every tail stands in R to each one behind it
abbrev pub Pairs : (Tail → Tail → Type 0) → List Tail → Type 0
Pairs R [] = Unit {0}
Pairs R (t ∷ ts) = ((s : Tail) → Mem s ts → R t s) × Pairs R ts

-- the record of the first is not after that of the second
abbrev pub Upto : Tail → Tail → Type 0
Upto t s = Le (tail_record t) (tail_record s)

-- tails in the order of their records that share their first d bytes
pub record Run (d : ℕ) (ts : List Tail) : Type 0 where
  pub ordered : Pairs Upto ts
  pub sound : (t : Tail) → Mem t ts → SoundPath t.entry.path
  pub long : (t : Tail) → Mem t ts → d ≤ length t.entry.path
  pub agree : (t s : Tail) → Mem t ts → Mem s ts → Agree d t.entry.path s.entry.path
