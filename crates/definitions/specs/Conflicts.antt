-- Document 02, request 2: which two pieces conflict, and pieces free of conflicts. Assumes nothing.
use Rattle.std.specs.Prelude.{ℕ, ◌+◌, min, max, ◌≡◌, refl, Bool, true, false, not, ◌&&◌, ◌||◌, List, [], ◌∷◌, length, ltb}
use Rattle.definitions.specs.Blocks.{Block, bytes_at, Piece}
use Rattle.definitions.specs.Runs.{Covers}

-- the first address behind a block
abbrev pub end : Block → ℕ
end b = b.at.address + length b.bytes

-- they share a byte address and a live tick: the greater of the beginnings is below the lesser of the ends, for both
abbrev pub shares : Block → Block → Bool
shares p r =
    ltb (max p.at.address r.at.address) (min (end p) (end r)) &&
    ltb (max p.at.created r.at.created) (min p.at.destroyed r.at.destroyed)

-- one byte and one tick in common
one_in_common : shares (bytes_at (0x61 ∷ 0x62 ∷ []) 5 1 3) (bytes_at (0x63 ∷ []) 6 2 4) ≡ true
one_in_common = refl

-- touching lives, touching addresses
lives_touch : shares (bytes_at (0x61 ∷ []) 5 1 3) (bytes_at (0x61 ∷ []) 5 3 4) ≡ false
lives_touch = refl

addresses_touch : shares (bytes_at (0x61 ∷ 0x62 ∷ []) 5 1 3) (bytes_at (0x63 ∷ []) 7 1 3) ≡ false
addresses_touch = refl

-- an empty block shares nothing, inside another one too
empty_inside : shares (bytes_at (0x61 ∷ 0x62 ∷ []) 5 1 3) (bytes_at [] 6 1 3) ≡ false
empty_inside = refl

-- two pieces conflict if they share
abbrev pub conflicting : Piece → Piece → Bool
conflicting p r = shares p r

-- p conflicts with one of them
abbrev pub conflicts_with : Piece → List Piece → Bool
conflicts_with p [] = false
conflicts_with p (r ∷ rs) = conflicting p r || conflicts_with p rs

-- one of the new pieces conflicts with one that is held
abbrev pub clash : List Piece → List Piece → Bool
clash [] held = false
clash (p ∷ new) held = conflicts_with p held || clash new held

-- no two of them conflict, by position: the same piece twice is a conflict
abbrev pub free : List Piece → Bool
free [] = true
free (p ∷ ps) = not (conflicts_with p ps) && free ps

-- the same block twice is a conflict
twice : free (bytes_at (0x61 ∷ []) 5 1 3 ∷ bytes_at (0x61 ∷ []) 5 1 3 ∷ []) ≡ false
twice = refl

-- a byte address and a live tick that two blocks have in common
pub record Common (p r : Block) : Type 0 where
  pub address : ℕ
  pub tick : ℕ
  pub left : Covers p address tick
  pub right : Covers r address tick
