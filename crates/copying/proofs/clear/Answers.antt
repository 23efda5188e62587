-- `copying::clear` meets its contract: what is still to be written, written, is always the same.
use mathlib.Core.Path.{sym, ◌∙◌}
use lib.ListN.{length-set}
use Rattle.copying.proofs.Steps.{clear_turn, clear_done}
use Rattle.copying.proofs.clear.Goals as goal

pub loop-k-preserved : goal.loop-k-preserved
loop-k-preserved c =
    let inv = c.loop-k.invariant in
    (simp length-set inv.0, sym (clear_turn _ _ _ c.loop-k-test.true) ∙ inv.1)

pub returns : goal.returns
returns c = sym (clear_done _ _ _ c.loop-k-test.false) ∙ c.loop-k.invariant.1
