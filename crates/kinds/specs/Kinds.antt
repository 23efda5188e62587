-- Document 01, "The saved image": the kind of a node follows its child count, from a table of three ranges. Assumes nothing.
use Rattle.std.specs.Prelude.{ℕ, ◌≡◌, ◌⊎◌, ◌<◌, Bool, false, ◌&&◌, cond, List, [], ◌∷◌, leb, eqb, Option, None, Some, Result, Ok, Err}
use Rattle.kinds.specs.declared.NodeKind.{NodeKind}
use Rattle.kinds.specs.declared.NodeKind.TheVariants as K
use Rattle.kinds.specs.declared.UnknownNodeKind.{UnknownNodeKind}
use Rattle.kinds.specs.declared.KindRange.{KindRange}

-- the number of a kind in the image
abbrev pub kind_number : NodeKind → ℕ
kind_number K.Dense = 1
kind_number K.ByByte = 2
kind_number K.ByArrival = 3

-- 0 where there is none
abbrev pub kind_in : Option NodeKind → ℕ
kind_in None = 0
kind_in (Some k) = kind_number k

-- a number is that of the kind, or no kind's: then it is given back with the error
abbrev pub Decodes : ℕ → Result NodeKind UnknownNodeKind → Type 0
Decodes n (Ok k) = kind_number k ≡ n
Decodes n (Err e) = (e.0 ≡ n) × ((n ≡ 0) ⊎ (3 < n))

-- kind 3 for 0 to 8, 2 for 9 to 96, 1 for 97 to 256
abbrev pub kinds : List KindRange
kinds = record { kind = K.ByArrival; lowest = 0; highest = 8 } ∷ record { kind = K.ByByte; lowest = 9; highest = 96 } ∷ record { kind = K.Dense; lowest = 97; highest = 256 } ∷ []

-- the range has n
abbrev pub has : KindRange → ℕ → Bool
has r n = leb r.lowest n && leb n r.highest

-- the kind of the first range that has n, 0 where none has
abbrev pub kind_among : List KindRange → ℕ → ℕ
kind_among [] n = 0
kind_among (r ∷ rs) n = cond (has r n) (kind_number r.kind) (kind_among rs n)

-- the kind of a node with n children
unfoldable pub kind_of : ℕ → ℕ
kind_of n = kind_among kinds n

abbrev pub fits_among : List KindRange → ℕ → ℕ → Bool
fits_among [] k n = false
fits_among (r ∷ rs) k n = cond (eqb k (kind_number r.kind)) (has r n) (fits_among rs k n)

-- a node of kind k may have n children
unfoldable pub fits : ℕ → ℕ → Bool
fits k n = fits_among kinds k n
