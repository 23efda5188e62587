-- `check_character::weighted_value` meets its contract by the table's rule, which one computed test shows at all entries. Assumes nothing.
use native.Mathlib.Omega.{arith}
use mathlib.Core.Path.{◌∙◌}
use Rattle.check_character.proofs.Rule.{rule}
use Rattle.check_character.proofs.weighted_value.Goals as goal

pub from-requires : goal.from-requires
from-requires c = omega (arith, rule c.args.v c.args.p (omega arith) (omega arith) (omega arith))

pub returns : goal.returns
returns c = c.from.ensures ∙ rule c.args.v c.args.p (omega arith) (omega arith) (omega arith)
