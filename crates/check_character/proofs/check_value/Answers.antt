-- `check_character::check_value` meets its contract: `*`, or a character of a number. Assumes nothing.
use native.Mathlib.Omega.{arith}
use Rattle.check_character.proofs.Characters.{value_star, star_too}
use Rattle.check_character.proofs.check_value.Goals as goal

pub returns-then-b-eq42 : goal.returns-then-b-eq42
returns-then-b-eq42 c = let e = value_star c.args.b c.if-b-eq42.true in (omega arith, omega arith)

pub returns-else-b-eq42 : goal.returns-else-b-eq42
returns-else-b-eq42 c = star_too c.args.b c.if-b-eq42.false c.number_value.result c.number_value.ensures
