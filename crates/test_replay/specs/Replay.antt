-- What a line is answered where recordings are replayed: (new) opens a fresh index, (save) prints its image. Assumes nothing.
use Rattle.std.specs.Prelude.{ℕ, ◌+◌, ◌-◌, ◌≤◌, ◌≡◌, Bool, false, cond, List, [], ◌∷◌, ◌++◌, length, take, drop, replicate, eqb}
use Rattle.definitions.specs.Program.{text, hex, refused, program_capacity}
use Rattle.memory_header.specs.Opening.{open_memory}
use Rattle.saving.specs.Saving.{Saving, save_memory}
use Rattle.numerals.specs.Numerals.{starts}
use Rattle.lines.specs.Cut.{line_end}
use Rattle.replies.specs.declared.Output.{Output}
use Rattle.replies.specs.Outputs.{Writes, emptied}
use Rattle.replies.specs.Written.{reply_bytes}
use Rattle.form_answers.specs.Memory.{line_answer, memory_after_line}

-- whether a line is a word
abbrev pub is_word : List ℕ → List ℕ → Bool
is_word w l = cond (eqb (length l) (length w)) (starts w l) false

-- the line of an image
abbrev pub image_line : List ℕ → List ℕ
image_line s = text "(image " ++ hex s ++ (41 ∷ 10 ∷ [])

-- the line of what a save answers
abbrev pub save_line : Saving → List ℕ
save_line s = cond (eqb s.refusal 0) (image_line (take s.size s.buffer)) (reply_bytes (refused s.refusal))

-- the answer to (save), with room for an image of 73,600 bytes
unfoldable pub save_answer : List ℕ → List ℕ
save_answer m = save_line (save_memory m (replicate 73600 0))

-- the answer to a line
abbrev pub replay_answer : List ℕ → List ℕ → List ℕ
replay_answer m l = cond (is_word (text "(new)") l) [] (cond (is_word (text "(save)") l) (save_answer m) (line_answer m l))

-- the memory after it
abbrev pub replay_memory : List ℕ → List ℕ → List ℕ
replay_memory m l = cond (is_word (text "(new)") l) (open_memory m program_capacity).memory (cond (is_word (text "(save)") l) m (memory_after_line m l))

-- a line was answered from the start of an output, which holds all of the answer
pub record Replays (m l : List ℕ) (out : Output) (m' : List ℕ) (out' : Output) : Type 0 where
  pub written : Writes (emptied out) (replay_answer m l) out'
  pub within : out'.at ≤ length out.bytes.now
  pub leaves : m' ≡ replay_memory m l

-- the line that begins at an index
abbrev pub line_from : List ℕ → ℕ → List ℕ
line_from s p = take (line_end s p - p) (drop p s)

-- where the next line begins; the input's end where the output did not take the answer
abbrev pub next_line : List ℕ → ℕ → Bool → ℕ
next_line s p taken = cond taken (line_end s p + 1) (length s)

-- the line from an index on was answered, and r is where the next one begins; no contract says whether an output takes bytes
pub record ReplaysNext (m s : List ℕ) (p : ℕ) (out : Output) (m' : List ℕ) (out' : Output) (r : ℕ) : Type 0 where
  pub taken : Bool
  pub next : r ≡ next_line s p taken
  pub answer : Writes (emptied out) (replay_answer m (line_from s p)) out'
  pub leaves : m' ≡ replay_memory m (line_from s p)
