-- `fields::Children::turn_at` meets its contract. Assumes nothing.
use mathlib.Core.Path.{refl}
use Rattle.image_format.proofs.Nodes.{turn_by, turn_read}
use Rattle.image_format.specs.Reading.{skip}
use Rattle.fields.specs.Answers.{table_in}
use Rattle.fields.proofs.children.Children.turn_at.Goals as goal

pub returns-in_default : goal.returns-in_default
returns-in_default c = turn_by _ (table_in c.args.self) _ _ skip c.in_default.ensures

pub returns : goal.returns
returns c = turn_read _ (table_in c.args.self) _ _ _ _ _ c.flag_at.ensures refl c.in-Some.ensures
