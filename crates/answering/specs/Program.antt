-- Document 01, "The program `places`": what it writes for all that it reads. Assumes nothing.
use Rattle.std.specs.Prelude.{ℕ, List, [], ◌∷◌, ◌++◌}
use Rattle.std.proofs.Math.Option.{Option, none, some}
use Rattle.definitions.specs.Calls.{Recorded, fresh}
use Rattle.definitions.specs.Program.{Form, Reply, form_replies, next}
use Rattle.forms.specs.ReadLine.{read_line}
use Rattle.lines.specs.Cut.{lines_of}
use Rattle.replies.specs.Replies.{replies_bytes}

-- what it leaves behind; a line that is no form changes nothing
abbrev pub after_form : Recorded → Option Form → Recorded
after_form s none = s
after_form s (some f) = next s f

-- what lines, without their newlines, are answered, one after the other
unfoldable pub line_replies : Recorded → List (List ℕ) → List Reply
line_replies s [] = []
line_replies s (l ∷ ls) = form_replies s (read_line l) ++ line_replies (after_form s (read_line l)) ls

-- what the program writes for an input
abbrev pub program : List ℕ → List ℕ
program input = replies_bytes (line_replies fresh (lines_of input))
