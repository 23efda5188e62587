-- `lines::line_end` meets its contract: where the line ends is the same from each byte of it on. Assumes nothing.
use native.Mathlib.Omega.{arith}
use mathlib.Core.Path.{◌∙◌}
use Rattle.lines.proofs.LineEnds.{end_here, end_on, end_none}
use Rattle.lines.proofs.line_end.Goals as goal

pub returns-then-input-i-eq10 : goal.returns-then-input-i-eq10
returns-then-input-i-eq10 c =
    let s = c.args.input.now in
    end_here s c.loop-i.i (omega arith) (omega arith) ∙ c.loop-i.invariant

pub loop-i-preserved : goal.loop-i-preserved
loop-i-preserved c =
    let s = c.args.input.now in
    end_on s c.loop-i.i (omega arith) (λ e. omega arith) ∙ c.loop-i.invariant

pub returns : goal.returns
returns c = c.max.ensures ∙ end_none c.args.input.now c.args.at c.loop-i.i (omega arith) (λ h. omega arith) c.loop-i.invariant
