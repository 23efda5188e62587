-- `check_character::is_number` meets its contract: the length, the characters and the check decide. Assumes nothing.
use native.Mathlib.Omega.{arith}
use mathlib.Core.Path.{◌∙◌}
use Rattle.check_character.proofs.Characters.{right_length, right_off, right_so}
use Rattle.check_character.proofs.is_number.Goals as goal

pub returns-then-typed-ne-TYPED_SIZE : goal.returns-then-typed-ne-TYPED_SIZE
returns-then-typed-ne-TYPED_SIZE c = right_length c.args.typed.now (λ e. omega arith)

pub returns-in_default : goal.returns-in_default
returns-in_default c = right_off c.args.typed.now c.if-typed-ne-TYPED_SIZE.false c.in_default.ensures

pub returns : goal.returns
returns c =
    let s = c.in-Some.ensures in
    c.eq.ensures ∙ right_so c.args.typed.now c.if-typed-ne-TYPED_SIZE.false s.0 c.check_value.result c.in-Some.sum c.check_of.result c.check_value.ensures s.1 c.check_of.ensures
