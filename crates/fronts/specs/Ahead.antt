-- Reading ahead: the number that the words read make. It says nothing of the image, and is named so that contracts can say what stands where it is put. Assumes nothing.
use Rattle.std.specs.Prelude.{ℕ, zero, suc, ◌+◌, ◌-◌, ◌/◌, min, cond, List, [], ◌∷◌, eqb, length}
use Rattle.std.proofs.Math.Option.{Option, none, some}
use Rattle.std.specs.Int.Bits.{bit_xor}
use Rattle.words.specs.Words.{le64}
use Rattle.image_walk.specs.Tables.{entries_at, node_for}
use Rattle.fronts.specs.declared.Front.{Front}

-- a word of each 64 bytes, so many from an index on, each put to the number before it bit by bit
unfoldable pub words_read : List ℕ → ℕ → ℕ → ℕ → ℕ
words_read s zero at x = x
words_read s (suc n) at x = words_read s n (at + 64) (bit_xor x (le64 s at))

-- those of the n bytes from an index on, as far as they are there
abbrev pub part_read : List ℕ → ℕ → ℕ → ℕ
part_read s at n = words_read s (min n (length s - at) / 64) at 0

-- with those of the n bytes below a child, if there is one
abbrev pub child_read : List ℕ → ℕ → ℕ → Option ℕ → ℕ
child_read s n x none = x
child_read s n x (some at) = bit_xor x (part_read s at n)

-- with those of the n bytes below the child by a byte of each front
unfoldable pub fronts_read : List ℕ → ℕ → ℕ → List Front → ℕ → ℕ
fronts_read s b n [] x = x
fronts_read s b n (f ∷ fs) x = fronts_read s b n fs (child_read s n x (node_for (entries_at s f.table.at f.table.count) b))

-- an even share of the image below a node, and one of that below the child by its byte of each front of the root
abbrev pub shares_read : List ℕ → ℕ → List Front → ℕ → ℕ
shares_read s b fronts at = cond (eqb (length fronts) 0) 0 (fronts_read s b (length s / length fronts / length fronts) fronts (part_read s at (length s / length fronts)))
