-- `answering::end_line` meets its contract: all of the line is at hand, or its last bytes are kept, too. Assumes nothing.
use Rattle.answering.proofs.KeptLines.{nothing_kept, line_at_hand}
use Rattle.answering.proofs.end_line.Goals as goal

pub returns-in-Some-empty-clause-answered : goal.returns-in-Some-empty-clause-answered
returns-in-Some-empty-clause-answered c =
    let a = c.args in
    let t = c.in-Some-empty in
    line_at_hand a.mem.now a.line.now a.last.now (nothing_kept t.field-0.now t.len_below t.ensures) c.answer.ensures
