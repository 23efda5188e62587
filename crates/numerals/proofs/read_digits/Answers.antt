-- `numerals::read_digits` meets its contract: the digits passed make x, and what stands behind them decides. Assumes nothing.
use native.Mathlib.Omega.{arith}
use mathlib.Core.Path.{sym, ◌∙◌}
use Rattle.numerals.proofs.Steps.{digits_out, digits_end, digits_over, digits_on}
use Rattle.numerals.proofs.read_digits.Goals as goal

pub returns-then-not-digit : goal.returns-then-not-digit
returns-then-not-digit c = c.ended.ensures ∙ digits_end _ _ _ c.loop-at-test.true (sym c.digit.ensures ∙ c.if-not-digit.true) ∙ c.loop-at.invariant.1

pub returns-in_err-checked_mul : goal.returns-in_err-checked_mul
returns-in_err-checked_mul c =
    let d = sym c.digit.ensures ∙ c.if-not-digit.false in
    rw c.from_residual.ensures (digits_over _ _ _ c.loop-at-test.true d (omega (arith, c.in_err-checked_mul.ensures)) ∙ c.loop-at.invariant.1)

pub returns-in_err-x : goal.returns-in_err-x
returns-in_err-x c =
    let d = sym c.digit.ensures ∙ c.if-not-digit.false in
    rw c.from_residual-in_err-x.ensures (digits_over _ _ _ c.loop-at-test.true d (omega (arith, c.in_ok-checked_mul.ensures, c.from.ensures, c.in_err-x.ensures)) ∙ c.loop-at.invariant.1)

pub loop-at-preserved : goal.loop-at-preserved
loop-at-preserved c =
    let d = sym c.digit.ensures ∙ c.if-not-digit.false in
    let m = c.in_ok-checked_mul.ensures in
    let k = c.in_ok-x.ensures in
    (omega arith, sym (digits_on _ _ _ c.loop-at-test.true d _ (omega arith) (omega arith)) ∙ c.loop-at.invariant.1)

pub returns : goal.returns
returns c = digits_out c.args.line.now c.loop-at.at _ (omega arith) ∙ c.loop-at.invariant.1
