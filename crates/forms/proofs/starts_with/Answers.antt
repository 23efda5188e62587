-- `forms::starts_with` meets its contract. Assumes nothing.
use mathlib.Core.Path.{◌∙◌}
use Rattle.forms.proofs.Words.{starts_is}
use Rattle.forms.proofs.starts_with.Goals as goal

pub returns : goal.returns
returns c =
    let a = c.args in
    c.starts_with.ensures.value ∙ starts_is a.word.now a.line.now
