-- `fields::Children::offset_at` meets its contract. Assumes nothing.
use native.Mathlib.Omega.{arith}
use mathlib.Core.Path.{◌∙◌, ap}
use Rattle.image_format.proofs.Tables.{slot_arrival, slot_byte, slot_dense, slot_skip}
use Rattle.image_format.specs.Reading.{offset}
use Rattle.fields.specs.Answers.{table_in}
use Rattle.fields.proofs.children.Children.offset_at.Goals as goal

pub returns-in-1 : goal.returns-in-1
returns-in-1 c = ap offset c.get64.ensures ∙ slot_dense _ (table_in c.args.self) _ (omega arith)

pub returns-in-3 : goal.returns-in-3
returns-in-3 c = ap offset c.get64-in-3.ensures ∙ slot_arrival _ (table_in c.args.self) _ (omega arith) (omega arith)

pub returns-in_ok-j-in_default : goal.returns-in_ok-j-in_default
returns-in_ok-j-in_default c =
    ap offset c.get64-in_default.ensures ∙ slot_byte _ (table_in c.args.self) _ (omega arith) (omega arith) _ c.in_ok-j-in_default.ensures.1 c.in_ok-j-in_default.ensures.0

pub returns-in_err-j-in_default : goal.returns-in_err-j-in_default
returns-in_err-j-in_default c =
    rw c.from_residual.ensures (slot_skip _ (table_in c.args.self) _ (omega arith) (omega arith) _ c.in_err-j-in_default.ensures (omega arith))
