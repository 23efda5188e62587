-- `hex_pairs::digit_value` meets its contract: 0 to 9, a to f, or neither. Assumes nothing.
use Prim.Native.Nat.{ℕ}
use native.Mathlib.Omega.{arith}
use mathlib.Core.Path.{sym, ap, ◌∙◌}
use Rattle.std.specs.Prelude.{true, false, Option}
use Rattle.std.specs.Option.{unwrap_or}
use Rattle.numerals.proofs.Steps.{digit_tells}
use Rattle.hex_pairs.proofs.Steps.{nibble_digit, nibble_letter, nibble_none}
use Rattle.hex_pairs.proofs.digit_value.Goals as goal

abbrev or_none : Option ℕ → ℕ
or_none o = unwrap_or o 16

pub returns-then-digit : goal.returns-then-digit
returns-then-digit c = let d = digit_tells c.args.b true (sym c.digit.ensures ∙ c.if-digit.true) in ap or_none (nibble_digit c.args.b (omega arith) (omega arith))

pub returns-then-b-lt97 : goal.returns-then-b-lt97
returns-then-b-lt97 c = ap or_none (nibble_none c.args.b (digit_tells c.args.b false (sym c.digit.ensures ∙ c.if-digit.false)) (λ h. omega arith))

pub returns-then-b-gt102 : goal.returns-then-b-gt102
returns-then-b-gt102 c = ap or_none (nibble_none c.args.b (digit_tells c.args.b false (sym c.digit.ensures ∙ c.if-digit.false)) (λ h. omega arith))

pub returns : goal.returns
returns c = ap or_none (nibble_letter c.args.b (omega arith) (omega arith) _ (omega arith))
