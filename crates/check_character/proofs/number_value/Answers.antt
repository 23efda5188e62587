-- `check_character::number_value` meets its contract: a digit, a letter, or none. Assumes nothing.
use native.Mathlib.Omega.{arith}
use Rattle.check_character.proofs.Characters.{value_digit, value_letter, value_above}
use Rattle.check_character.proofs.number_value.Goals as goal

pub returns-in-48-to-57 : goal.returns-in-48-to-57
returns-in-48-to-57 c = let e = value_digit c.args.b (omega arith) (omega arith) in (omega arith, omega arith)

pub returns-in-65-to-90 : goal.returns-in-65-to-90
returns-in-65-to-90 c = let e = value_letter c.args.b (omega arith) (omega arith) in (omega arith, omega arith)

pub returns-in_default : goal.returns-in_default
returns-in_default c = λ h. omega (arith, value_above c.args.b (λ d. omega arith) (λ l. omega arith))

pub returns-in_default-2 : goal.returns-in_default-2
returns-in_default-2 c = λ h. omega (arith, value_above c.args.b (λ d. omega arith) (λ l. omega arith))

pub returns-in_default-3 : goal.returns-in_default-3
returns-in_default-3 c = λ h. omega (arith, value_above c.args.b (λ d. omega arith) (λ l. omega arith))
