-- `words::put` meets its contract: what is left, written from i on, is always the same. Assumes nothing.
use mathlib.Core.Path.{sym, ◌∙◌}
use Rattle.words.proofs.Turns.{write_one, write_done}
use Rattle.words.proofs.put.Goals as goal

pub loop-i-preserved : goal.loop-i-preserved
loop-i-preserved g c = sym (write_one g.row.N c.loop-i.i c.loop-i.s c.args.at c.loop-i.rest c.loop-i-test.true) ∙ c.loop-i.invariant

pub returns : goal.returns
returns g c = sym (write_done g.row.N c.loop-i.i c.loop-i.s _ c.loop-i.rest c.loop-i-test.false) ∙ c.loop-i.invariant
