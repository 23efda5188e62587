-- Bytes in the text of a line, read from its front. Assumes nothing.
use Rattle.std.specs.Prelude.{ℕ, ◌+◌, ◌-◌, ◌*◌, cond, List, [], ◌∷◌, ltb, eqb, Option, Some, None}
use Rattle.std.proofs.Math.Option as M
use Rattle.numerals.specs.Numerals.{is_digit}

-- the value of a lower_case hexadecimal digit
unfoldable pub nibble : ℕ → Option ℕ
nibble b = cond (is_digit b) (Some (b - 48)) (cond (ltb b 97) None (cond (ltb 102 b) None (Some (b - 87))))

-- the byte of the values of two digits
abbrev pub byte_of : Option ℕ → Option ℕ → Option ℕ
byte_of None l = None
byte_of (Some h) None = None
byte_of (Some h) (Some l) = Some (h * 16 + l)

-- the byte of two digits
unfoldable pub pair : ℕ → ℕ → Option ℕ
pair a b = byte_of (nibble a) (nibble b)

-- two parentheses end a line
unfoldable pub closing : ℕ → ℕ → List ℕ → M.Option (List ℕ)
closing a b [] = cond (eqb a 41) (cond (eqb b 41) (M.some []) M.none) M.none
closing a b (c ∷ cs) = M.none

-- a byte in front of those that were read, if any were
abbrev pub after_byte : ℕ → M.Option (List ℕ) → M.Option (List ℕ)
after_byte v M.none = M.none
after_byte v (M.some bs) = M.some (v ∷ bs)

-- a byte in front of what more is read; without one, what ends the line
abbrev pub after_pair : Option ℕ → M.Option (List ℕ) → M.Option (List ℕ) → M.Option (List ℕ)
after_pair None end more = end
after_pair (Some v) end more = after_byte v more

-- pairs of digits up to the two parentheses that end the line
unfoldable pub hex_bytes : List ℕ → M.Option (List ℕ)
hex_bytes [] = M.none
hex_bytes (a ∷ []) = M.none
hex_bytes (a ∷ b ∷ l) = after_pair (pair a b) (closing a b l) (hex_bytes l)

-- bytes in parentheses, and the form's own last one
unfoldable pub last_bytes : List ℕ → M.Option (List ℕ)
last_bytes [] = M.none
last_bytes (b ∷ bs) = cond (eqb b 40) (hex_bytes bs) M.none
