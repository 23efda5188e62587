-- `answering::answer_kept` meets its contract: a text, or a line that is too long. Assumes nothing.
use mathlib.Core.Path.{sym, ap, ◌∙◌}
use Rattle.lines.specs.Kept.{kept_text}
use Rattle.answering.proofs.KeptLines.{kept_same, too_long_refused}
use Rattle.answering.proofs.answer_kept.Goals as goal

pub returns-in-None : goal.returns-in-None
returns-in-None c = kept_same c.args.mem.now (sym (ap kept_text c.in-None.is) ∙ c.text.ensures) (too_long_refused c.put_refused.ensures)
