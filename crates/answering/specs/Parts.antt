-- Input that comes in parts: what each byte changes. Assumes nothing.
use Rattle.std.specs.Prelude.{ℕ, suc, ◌+◌, cond, List, [], ◌∷◌, ◌++◌, length, ltb, eqb}
use Rattle.definitions.specs.Causes.{number, no_form}
use Rattle.definitions.specs.Program.{refused}
use Rattle.lines.specs.Kept.{Kept, part, too_long, keeps_byte}
use Rattle.replies.specs.Written.{reply_bytes}
use Rattle.form_answers.specs.Memory.{line_answer, memory_after_line}
use Rattle.form_answers.specs.Answered.{answer_limit}

-- the answer to a line that ends; one that is too long is refused once
abbrev pub kept_answer : List ℕ → Kept → List ℕ
kept_answer m (part l) = line_answer m l
kept_answer m too_long = reply_bytes (refused (number no_form))

-- the memory after it
abbrev pub kept_memory : List ℕ → Kept → List ℕ
kept_memory m (part l) = memory_after_line m l
kept_memory m too_long = m

-- the answer at the end of the input, where the last line may lack its newline
abbrev pub end_answer : List ℕ → Kept → List ℕ
end_answer m (part []) = []
end_answer m (part (b ∷ l)) = line_answer m (b ∷ l)
end_answer m too_long = reply_bytes (refused (number no_form))

-- the memory after it
abbrev pub end_memory : List ℕ → Kept → List ℕ
end_memory m (part []) = m
end_memory m (part (b ∷ l)) = memory_after_line m (b ∷ l)
end_memory m too_long = m

-- ── byte by byte ──

-- the memory of the index, what is kept of a line, and what was answered so far
pub record State : Type 0 where
  pub memory : List ℕ
  pub kept : Kept
  pub answers : List ℕ

-- the line that is kept has ended
abbrev pub line_ended : State → State
line_ended s = record { memory = kept_memory s.memory s.kept; kept = part []; answers = s.answers ++ kept_answer s.memory s.kept }

-- these bytes are kept too
abbrev pub still_kept : State → Kept → State
still_kept s k = record { memory = s.memory; kept = k; answers = s.answers }

abbrev pub after_byte : State → ℕ → State
after_byte s b = cond (eqb b 10) (line_ended s) (still_kept s (keeps_byte s.kept b))

unfoldable pub after_bytes : State → List ℕ → State
after_bytes s [] = s
after_bytes s (b ∷ bs) = after_bytes (after_byte s b) bs

-- how many bytes of a part are answered into an output with so much room: lines, as long as the longest answer has room
unfoldable pub used : ℕ → State → List ℕ → ℕ
used room s [] = 0
used room s (b ∷ bs) =
    suc
    (cond (eqb b 10)
    (cond (ltb room (length (line_ended s).answers + answer_limit)) 0 (used room (line_ended s) bs))
    (used room (still_kept s (keeps_byte s.kept b)) bs))

-- ── part by part ──

-- nothing answered yet
abbrev pub at_start : List ℕ → Kept → State
at_start m k = record { memory = m; kept = k; answers = [] }

-- what is written for input in parts: each is answered where the one before it left off, then the input ends
unfoldable pub output : List ℕ → Kept → List (List ℕ) → List ℕ
output m k [] = end_answer m k
output m k (p ∷ ps) =
    (after_bytes (at_start m k) p).answers ++
    output (after_bytes (at_start m k) p).memory (after_bytes (at_start m k) p).kept ps

-- parts one after the other
abbrev pub all_of : List (List ℕ) → List ℕ
all_of [] = []
all_of (p ∷ ps) = p ++ all_of ps
