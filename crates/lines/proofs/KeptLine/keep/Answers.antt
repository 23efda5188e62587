-- `lines::KeptLine::keep` meets its contract: a line that was too long stays so. Assumes nothing.
use mathlib.Core.Path.{sym}
use Rattle.lines.proofs.Keeping.{keeps_long}
use Rattle.lines.proofs.KeptLine.keep.Goals as goal

pub returns-in_default : goal.returns-in_default
returns-in_default c = rw (← c.self.view_is, c.in_default.is) (sym (keeps_long c.args.more.now))
