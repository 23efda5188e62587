-- Masks of bytes: for each of some bytes the bit of what it leaves by 64 is set. Assumes nothing.
use Rattle.std.specs.Prelude.{ℕ, ◌*◌, ◌/◌, ◌%◌, ◌^◌, ◌≡◌, Bool, List, eqb}
use Rattle.std.proofs.Math.Option.{none}
use Rattle.std.specs.Int.Bits.{bit_or}
use Rattle.trie.specs.Trie.{Forest, child}
use Rattle.node_rule.specs.Parts.{TableOf}

-- the bit of a byte in a mask
abbrev pub bit : ℕ → ℕ → ℕ
bit m b = m / 2 ^ (b % 64) % 2

-- a mask tells that a byte is not among its bytes
abbrev pub is_absent : ℕ → ℕ → Bool
is_absent m b = eqb (bit m b) 0

-- the mask with the bit of one byte more
abbrev pub with_byte : ℕ → ℕ → ℕ
with_byte m b = bit_or m (1 * 2 ^ (b % 64) % 18446744073709551616)

-- the mask with every bit, which tells nothing
abbrev pub all_bits : ℕ
all_bits = 18446744073709551615

-- there is no child for a byte that the mask of a table tells absent
abbrev pub SaysMask : List ℕ → ℕ → ℕ → ℕ → Type 0
SaysMask s table children m = (d : ℕ) (f : Forest) → TableOf s d table children f → (b : ℕ) → bit m b ≡ 0 → child f b ≡ none
