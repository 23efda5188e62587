-- `hex_pairs::count_bytes` meets its contract: the opening parenthesis, and what stands behind it. Assumes nothing.
use native.Mathlib.Omega.{arith}
use mathlib.Core.Path.{sym, ap, ◌∙◌}
use Rattle.std.proofs.lemmas.List.{take_rest}
use Rattle.hex_pairs.specs.HexAnswers.{counted}
use Rattle.hex_pairs.proofs.Steps.{bytes_out, bytes_not, bytes_so}
use Rattle.hex_pairs.proofs.count_bytes.Goals as goal

pub returns-in_err-opening : goal.returns-in_err-opening
returns-in_err-opening c = rw c.from_residual.ensures (ap (counted 0) (bytes_out _ _ c.in_err-opening.ensures.lookup.3))

pub returns-then-opening-eq40 : goal.returns-then-opening-eq40
returns-then-opening-eq40 c =
    let b = c.in_ok-opening.ensures.lookup in
    (rw take_rest at c.count_pairs.ensures) ∙ ap (counted 0) (bytes_so _ _ b.3.0 (sym (b.4 (omega arith) 0) ∙ c.if-opening-eq40.true))

pub returns-else-opening-eq40 : goal.returns-else-opening-eq40
returns-else-opening-eq40 c =
    let b = c.in_ok-opening.ensures.lookup in
    ap (counted 0) (bytes_not _ _ b.3.0 (λ e. c.if-opening-eq40.false (b.4 (omega arith) 0 ∙ e)))
