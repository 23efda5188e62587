-- What a line is answered by the calls on the memory of an index, and what it does to the memory. Assumes nothing.
use Rattle.std.specs.Prelude.{ℕ, cond, List, [], ◌∷◌, ◌++◌, eqb}
use Rattle.std.proofs.Math.Option.{Option, none, some}
use Rattle.definitions.specs.Causes.{number, no_form}
use Rattle.definitions.specs.Program.{Form, block, finish, find, Reply, taken, finished, refused, found, program_rows}
use Rattle.recording.specs.Record.{record_memory}
use Rattle.finding.specs.Find.{RowsFound, find_memory}
use Rattle.string_index.specs.Finish.{finish_memory}
use Rattle.forms.specs.ReadLine.{read_line}
use Rattle.replies.specs.Replies.{replies_bytes}

-- 256 places take 24 bytes of scratch each
abbrev pub scratch_size : ℕ
scratch_size = 6144

-- the number of a refusal decides, which is 0 where there is none
abbrev pub unless_number : ℕ → List Reply → List Reply
unless_number n rs = cond (eqb n 0) rs (refused n ∷ [])

-- the rows that were found, or the refusal
abbrev pub found_replies : RowsFound → List Reply
found_replies f = unless_number f.refusal (found f.rows)

-- what the form of a line is answered
abbrev pub form_answer : List ℕ → Option Form → List Reply
form_answer m none = refused (number no_form) ∷ []
form_answer m (some (block kind b)) = unless_number (record_memory m kind b).refusal (taken ∷ [])
form_answer m (some finish) = unless_number (finish_memory m).refusal (finished ∷ [])
form_answer m (some (find q)) = found_replies (find_memory m q scratch_size program_rows)

-- the memory after it; a line that is no form leaves it, and so does a search
abbrev pub memory_after_form : List ℕ → Option Form → List ℕ
memory_after_form m none = m
memory_after_form m (some (block kind b)) = (record_memory m kind b).memory
memory_after_form m (some finish) = (finish_memory m).memory
memory_after_form m (some (find q)) = m

-- the bytes of the answer to a line
unfoldable pub line_answer : List ℕ → List ℕ → List ℕ
line_answer m l = replies_bytes (form_answer m (read_line l))

-- the memory after a line
unfoldable pub memory_after_line : List ℕ → List ℕ → List ℕ
memory_after_line m l = memory_after_form m (read_line l)

-- the answers to lines, one after the other
unfoldable pub lines_answer : List ℕ → List (List ℕ) → List ℕ
lines_answer m [] = []
lines_answer m (l ∷ ls) = line_answer m l ++ lines_answer (memory_after_line m l) ls
