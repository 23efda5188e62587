-- Lines of document 01, and lines that are no form: the reader computes each. Assumes nothing.
use mathlib.Core.Path.{◌≡◌, refl}
use mathlib.Core.List.{[], ◌∷◌}
use mathlib.Core.Option.{none, some}
use Rattle.definitions.specs.Program.{block, finish, find, text}
use Rattle.forms.specs.ReadLine.{read_line, read_block}
use Rattle.numerals.specs.Numerals.{number, digits_from, space_ends, starts}
use Rattle.hex_pairs.specs.HexBytes.{last_bytes, hex_bytes, pair, nibble, closing}

-- the forms of document 01
taken_lines : (read_line (text "(block 1 100 10 50 (616263))")
    ≡ some (block 1 (record { bytes = 97 ∷ 98 ∷ 99 ∷ []; at = record { address = 100; created = 10; destroyed = 50 } })))
    × (read_line (text "(find (6364))") ≡ some (find (99 ∷ 100 ∷ [])))
    × (read_line (text "(find ())") ≡ some (find []))
    × (read_line (text "(finish)") ≡ some finish)
unfolding read_line read_block number digits_from space_ends last_bytes hex_bytes pair nibble closing starts
taken_lines = (refl, refl, refl, refl)

-- no form: text behind the end, upper-case and odd digits, an empty number, two spaces, a leading zero, 2^64
refused_lines : (read_line (text "(finish) ") ≡ none)
    × (read_line (text "(find (6364)) ") ≡ none)
    × (read_line (text "(find (6A))") ≡ none)
    × (read_line (text "(find (636))") ≡ none)
    × (read_line (text "(block 1  10 50 (61))") ≡ none)
    × (read_line (text "(block  1 100 10 50 (61))") ≡ none)
    × (read_line (text "(block 01 100 10 50 (61))") ≡ none)
    × (read_line (text "(block 1 18446744073709551616 10 50 (61))") ≡ none)
unfolding read_line read_block number digits_from space_ends last_bytes hex_bytes pair nibble closing starts
refused_lines = (refl, refl, refl, refl, refl, refl, refl, refl)
