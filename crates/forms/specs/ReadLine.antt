-- The form of a line, read from its front; none where the line is no form. Assumes nothing.
use Rattle.std.specs.Prelude.{ℕ, cond, List, length, drop, ltb, eqb}
use Rattle.std.proofs.Math.Option.{Option, none, some}
use Rattle.definitions.specs.Program.{Form, block, finish, find, text, line_limit}
use Rattle.numerals.specs.Numerals.{Numeral, number, starts}
use Rattle.hex_pairs.specs.HexBytes.{last_bytes}

-- what follows a number is read from the text behind it
abbrev pub with_number : Option Numeral → (ℕ → List ℕ → Option Form) → Option Form
with_number none f = none
with_number (some n) f = f n.value n.rest

-- a form made of bytes that were read
abbrev pub with_bytes : Option (List ℕ) → (List ℕ → Form) → Option Form
with_bytes none f = none
with_bytes (some bs) f = some (f bs)

-- a block behind its word: kind, address, created, destroyed, bytes
unfoldable pub read_block : List ℕ → Option Form
read_block l =
    with_number (number l) (λ kind l₁.
    with_number (number l₁) (λ address l₂.
    with_number (number l₂) (λ created l₃.
    with_number (number l₃) (λ destroyed l₄.
    with_bytes (last_bytes l₄) (λ bs.
    block kind (record { bytes = bs; at = record { address = address; created = created; destroyed = destroyed } }))))))

-- the form of a line: at most 1,024 bytes, and nothing behind the form
unfoldable pub read_line : List ℕ → Option Form
read_line l =
    cond (ltb line_limit (length l)) none
    (cond (starts (text "(block ") l) (read_block (drop 7 l))
    (cond (starts (text "(find ") l) (with_bytes (last_bytes (drop 6 l)) find)
    (cond (starts (text "(finish)") l) (cond (eqb (length l) 8) (some finish) none) none)))
