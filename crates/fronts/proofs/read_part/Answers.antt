-- `fronts::read_part` meets its contract: what is left to read is the same at each word. Assumes nothing.
use Prim.Native.Nat.{ℕ, ◌/◌, min}
use mathlib.Core.Path.{ap, ◌∙◌}
use Rattle.fronts.specs.Ahead.{words_read}
use Rattle.fronts.proofs.AheadLaws.{words_start, words_on, words_end}
use Rattle.fronts.proofs.read_part.Goals as goal

pub loop-i-init : goal.loop-i-init
loop-i-init c = words_start _ _ _

pub loop-i-preserved : goal.loop-i-preserved
loop-i-preserved c = let a = c.args in let o = c.loop-i in words_on a.s.now a.at _ o.i o.sum c.get64-sum.result c.loop-i-test.true c.get64-sum.ensures ∙ o.invariant

pub returns : goal.returns
returns c =
    let a = c.args in
    let o = c.loop-i in
    words_end a.s.now a.at _ o.i o.sum c.loop-i-test.false ∙ o.invariant
    ∙ ap (λ (n : ℕ). words_read a.s.now (n / 64) a.at 0) (c.min-parts.ensures ∙ ap (min a.n) c.saturating_sub.ensures)
