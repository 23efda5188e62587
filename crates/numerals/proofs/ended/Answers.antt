-- `numerals::ended` meets its contract: a space, another byte, or the line's end. Assumes nothing.
use native.Mathlib.Omega.{arith}
use mathlib.Core.Path.{sym, ◌∙◌}
use Rattle.numerals.proofs.Steps.{ends_out, ends_not, ends_so}
use Rattle.numerals.proofs.ended.Goals as goal

pub returns-in_err-b : goal.returns-in_err-b
returns-in_err-b c =
    let a = c.args in
    rw c.from_residual.ensures (ends_out a.line.now a.at a.x c.in_err-b.ensures.lookup.3)

pub returns-then-b-eq32 : goal.returns-then-b-eq32
returns-then-b-eq32 c =
    let a = c.args in
    let b = c.in_ok-b.ensures.lookup in
    ends_so a.line.now a.at a.x b.3.0 (sym (b.4 (omega arith) 0) ∙ c.if-b-eq32.true)

pub returns-else-b-eq32 : goal.returns-else-b-eq32
returns-else-b-eq32 c =
    let a = c.args in
    let b = c.in_ok-b.ensures.lookup in
    ends_not a.line.now a.at a.x b.3.0 (λ e. c.if-b-eq32.false (b.4 (omega arith) 0 ∙ e))
