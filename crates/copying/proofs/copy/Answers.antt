-- `copying::copy` meets its contract: what is still to be written, written, is always the same.
use mathlib.Core.Path.{refl, sym, ◌∙◌}
use lib.ListN.{length-set}
use Rattle.copying.proofs.Steps.{copy_turn, copy_start, copy_done}
use Rattle.copying.proofs.copy.Goals as goal

pub loop-k-init : goal.loop-k-init
loop-k-init c =
    let args = c.args in
    (refl, copy_start args.from.now args.to.now args.a args.b args.n)

pub loop-k-preserved : goal.loop-k-preserved
loop-k-preserved c =
    let inv = c.loop-k.invariant in
    (simp length-set inv.0, sym (copy_turn _ _ _ _ _ _ c.loop-k-test.true c.requires.0) ∙ inv.1)

pub returns : goal.returns
returns c =
    let args = c.args in
    sym (copy_done args.from.now _ args.a args.b _ _ c.loop-k-test.false) ∙ c.loop-k.invariant.1
