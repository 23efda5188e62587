-- What holds of the program on memory and on input in parts. Assumes nothing.
use Rattle.std.specs.Prelude.{ℕ, ◌≤◌, ◌≡◌, List, [], length}
use Rattle.definitions.specs.Calls.{needed}
use Rattle.definitions.specs.Program.{program_capacity}
use Rattle.lines.specs.Cut.{lines_of}
use Rattle.memory_header.specs.Opening.{open_memory}
use Rattle.lines.specs.Kept.{part}
use Rattle.answering.specs.Program.{program}
use Rattle.form_answers.specs.Memory.{lines_answer}
use Rattle.answering.specs.Parts.{output, all_of}

-- input in parts, however it was cut, is answered line by line
abbrev pub PartsAnswered : Type 0
PartsAnswered = (m : List ℕ) (ps : List (List ℕ)) → output m (part []) ps ≡ lines_answer m (lines_of (all_of ps))

-- a lent memory that is large enough, once opened, answers each line as document 01 does
abbrev pub MemoryAnswers : Type 0
MemoryAnswers =
    (m input : List ℕ) → needed program_capacity ≤ length m
    → lines_answer (open_memory m program_capacity).memory (lines_of input) ≡ program input

-- so what is written for input in parts is what document 01 says of the whole
abbrev pub PartsProgram : Type 0
PartsProgram =
    (m : List ℕ) (ps : List (List ℕ)) → needed program_capacity ≤ length m
    → output (open_memory m program_capacity).memory (part []) ps ≡ program (all_of ps)
