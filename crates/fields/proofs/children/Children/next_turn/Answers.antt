-- `fields::Children::next_turn` meets its contract. Assumes nothing.
use Rattle.image_format.proofs.Tables.{skips_least}
use Rattle.fields.specs.Answers.{table_in}
use Rattle.fields.proofs.children.Children.next_turn.Goals as goal

pub returns-then-self-eq2 : goal.returns-then-self-eq2
returns-then-self-eq2 c = let k = c.if-self-eq2.true in skips_least _ (table_in c.args.self) _ _ k (c.args.self.within.bytes k) c.least_byte.ensures
