-- What is kept of an unfinished line, byte by byte and in a line buffer. Assumes nothing.
use Rattle.std.specs.Prelude.{ℕ, ◌+◌, ◌≡◌, cond, List, [], ◌∷◌, ◌++◌, length, take, ltb, Option, Some, None}
use Rattle.std.specs.Borrow.{Bor}
use Rattle.std.proofs.lemmas.List.Edits.{sets}
use Rattle.definitions.specs.Program.{line_limit}

-- the bytes of an unfinished line, or that it is too long
pub data Kept : Type 0 where
  part : List ℕ → Kept
  too_long : Kept

-- one byte more; a line has at most 1,024
abbrev pub keeps_byte : Kept → ℕ → Kept
keeps_byte (part l) b = cond (ltb (length l) line_limit) (part (l ++ (b ∷ []))) too_long
keeps_byte too_long b = too_long

-- these bytes more
abbrev pub keeps : Kept → List ℕ → Kept
keeps k [] = k
keeps k (b ∷ bs) = keeps (keeps_byte k b) bs

-- the first n bytes of a buffer are kept, or the line is too long
abbrev pub kept_in : List ℕ → Option ℕ → Kept
kept_in line None = too_long
kept_in line (Some n) = part (take n line)

-- a count of bytes that a line can have
abbrev pub fits_line : ℕ → Option ℕ
fits_line n = cond (ltb line_limit n) None (Some n)

-- how many bytes are kept with these behind n, or that the line is too long
abbrev pub count_with : ℕ → List ℕ → Option ℕ
count_with n bs = fits_line (n + length bs)

-- the buffer then; it stays where the line is too long
abbrev pub line_with : List ℕ → ℕ → List ℕ → List ℕ
line_with line n bs = cond (ltb line_limit (n + length bs)) line (sets line n bs)

-- bytes are kept behind n of a line
pub record KeepsBehind (line : List ℕ) (n : ℕ) (bs after : List ℕ) (r : Option ℕ) : Type 0 where
  pub count : r ≡ count_with n bs
  pub buffer : after ≡ line_with line n bs
  pub keeps_them : kept_in after r ≡ keeps (kept_in line (fits_line n)) bs

-- a text that is kept, or none of a line that is too long
abbrev pub kept_text : Option (Bor (List ℕ)) → Kept
kept_text None = too_long
kept_text (Some t) = part t.now
