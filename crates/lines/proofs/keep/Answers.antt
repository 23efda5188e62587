-- `lines::keep` meets its contract. Assumes nothing.
use native.Mathlib.Omega.{arith}
use mathlib.Core.Path.{ap, ◌∙◌}
use lib.Seq.{sets, take-length}
use Rattle.lines.proofs.Keeping.{keep_long, keep_over, keep_fit}
use Rattle.lines.proofs.keep.Goals as goal

pub returns-then-n-gt-LINE_LIMIT : goal.returns-then-n-gt-LINE_LIMIT
returns-then-n-gt-LINE_LIMIT c =
    let a = c.args in
    keep_long a.line.now a.n a.part.now c.requires (omega arith)

pub returns-then-n-part : goal.returns-then-n-part
returns-then-n-part c =
    let a = c.args in
    keep_over a.line.now a.n a.part.now c.requires (omega arith) (omega arith)

pub returns : goal.returns
returns c =
    let a = c.args in
    let k = c.copy in
    keep_fit a.line.now a.n a.part.now c.requires (omega arith) k.new.to (k.ensures ∙ ap (sets a.line.now a.n) (take-length a.part.now))
