-- `numerals::read_number` meets its contract: a zero, another digit, or no number. Assumes nothing.
use native.Mathlib.Omega.{arith}
use mathlib.Core.Path.{◌≡◌, sym, ◌∙◌}
use lib.ListN.{get_or}
use Rattle.numerals.proofs.Steps.{number_out, number_zero, number_some, number_not, digit_is, digit_low, digit_over}
use Rattle.numerals.proofs.read_number.Goals as goal

pub returns-in_err-get : goal.returns-in_err-get
returns-in_err-get c = rw c.from_residual.ensures (number_out _ _ c.in_err-get.ensures.lookup.3)

pub returns-in-48 : goal.returns-in-48
returns-in-48 c =
    let b = c.in_ok-get.ensures.lookup in
    c.ended.ensures ∙ number_zero _ _ b.3.0 (sym (b.4 (omega arith) 0) ∙ c.in-48.is)

pub returns-in-49-to-57 : goal.returns-in-49-to-57
returns-in-49-to-57 c =
    let b = c.in_ok-get.ensures.lookup in
    let x = get_or c.args.line.now c.args.at 0 in
    let e : c.in_ok-get.field-0.now ≡ x = b.4 (omega arith) 0 in
    c.read_digits.ensures ∙ number_some _ _ b.3.0 (λ z. omega arith) (digit_is x (omega arith) (omega arith))

pub returns-in_default : goal.returns-in_default
returns-in_default c =
    let b = c.in_ok-get.ensures.lookup in
    let x = get_or c.args.line.now c.args.at 0 in
    let e : c.in_ok-get.field-0.now ≡ x = b.4 (omega arith) 0 in
    number_not _ _ b.3.0 (λ z. omega arith) (digit_low x (omega arith))

pub returns-in_default-2 : goal.returns-in_default-2
returns-in_default-2 c =
    let b = c.in_ok-get.ensures.lookup in
    let x = get_or c.args.line.now c.args.at 0 in
    let e : c.in_ok-get.field-0.now ≡ x = b.4 (omega arith) 0 in
    number_not _ _ b.3.0 (λ z. omega arith) (digit_over x (omega arith))
