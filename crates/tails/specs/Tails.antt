-- Finish sorts what was entered: tails, seven numbers each. Assumes nothing.
use Rattle.std.specs.Prelude.{ℕ, zero, suc, ◌+◌, ◌*◌, Bool, true, false, List, [], ◌∷◌, length, drop}
use Rattle.trie.specs.Build.{Entry}

-- an entry and its number in the order of arrival
pub record Tail : Type 0 where
  pub entry : Entry
  pub arrival : ℕ

-- entries numbered from n on
abbrev pub numbered : ℕ → List Entry → List Tail
numbered n [] = []
numbered n (e ∷ es) = record { entry = e; arrival = n } ∷ numbered (suc n) es

-- n bytes as a number, highest first, padded with zeros
unfoldable pub high : ℕ → List ℕ → ℕ → ℕ
high zero bs x = x
high (suc n) [] x = high n [] (x * 256)
high (suc n) (b ∷ bs) x = high n bs (x * 256 + b)

abbrev pub mark_of : Bool → ℕ
mark_of false = 0
mark_of true = 1

-- bytes 0 to 7 and 8 to 15, twice the length and whether it is a whole piece, the location, the arrival number
abbrev pub tail_record : Tail → List ℕ
tail_record t =
    high 8 t.entry.path 0 ∷ high 8 (drop 8 t.entry.path) 0 ∷ (2 * length t.entry.path + mark_of t.entry.whole)
    ∷ t.entry.at.address ∷ t.entry.at.created ∷ t.entry.at.destroyed ∷ t.arrival ∷ []

abbrev pub tail_records : List Tail → List (List ℕ)
tail_records [] = []
tail_records (t ∷ ts) = tail_record t ∷ tail_records ts
