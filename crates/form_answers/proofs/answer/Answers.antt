-- `form_answers::answer` meets its contract: the form that was read is answered. Assumes nothing.
use mathlib.Core.Path.{refl, ap, ◌∙◌}
use Rattle.std.specs.Prelude.{Some}
use Rattle.form_answers.proofs.Replying.{answered_refused}
use Rattle.form_answers.proofs.Blocks.{read_as, block_form}
use Rattle.form_answers.proofs.LineForms.{line_by_form}
use Rattle.form_answers.proofs.answer.Goals as goal

pub returns-in-Some-Block : goal.returns-in-Some-Block
returns-in-Some-Block c =
    let f = c.read_form in
    let a = c.args in
    let w = read_as a.line.now f.new.bytes f.ensures (c.in-Some-Block.is ∙ ap Some c.in-Some-Block.field-0-is) in
    line_by_form a.mem.now a.line.now (block_form f.new.bytes _ _ _ _ _ _ c.new-l.ensures ∙ w.form) c.answer_block.ensures

pub returns-in-Some-Finish : goal.returns-in-Some-Finish
returns-in-Some-Finish c =
    let f = c.read_form in
    let a = c.args in
    let w = read_as a.line.now f.new.bytes f.ensures (c.in-Some-Finish.is ∙ ap Some c.in-Some-Finish.field-0-is) in
    line_by_form a.mem.now a.line.now w.form c.answer_finish.ensures

pub returns-in-Some-Find : goal.returns-in-Some-Find
returns-in-Some-Find c =
    let f = c.read_form in
    let a = c.args in
    let w = read_as a.line.now f.new.bytes f.ensures (c.in-Some-Find.is ∙ ap Some c.in-Some-Find.field-0-is) in
    line_by_form a.mem.now a.line.now w.form c.answer_find.ensures

pub returns-in-None : goal.returns-in-None
returns-in-None c =
    let f = c.read_form in
    let a = c.args in
    let w = read_as a.line.now f.new.bytes f.ensures c.in-None.is in
    line_by_form a.mem.now a.line.now w.form (answered_refused 17 refl c.put_refused.ensures refl)
