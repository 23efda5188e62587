-- `places::answer_part` meets its contract: from each turn on, the part ends as it does from its first byte. Assumes nothing.
use native.Mathlib.Omega.{arith}
use Rattle.replies.proofs.Writing.{writes_long}
use Rattle.answering.proofs.Turns.{reached_on, reached_end}
use Rattle.places.proofs.answer_part.Goals as goal

pub write_part-requires : goal.write_part-requires
write_part-requires g c =
    let h = c.answer_lines-p.ensures.holds in
    omega (arith, h.within, writes_long h.written)

pub loop-p-smaller : goal.loop-p-smaller
loop-p-smaller g c = omega (arith, c.answer_lines-p.ensures.goes_on (omega arith))

pub loop-p-preserved : goal.loop-p-preserved
loop-p-preserved g c =
    let a = c.args in
    let l = c.loop-p in
    let k = c.answer_lines-p.ensures in
    (reached_on a.mem.now a.line.now a.input.now l.p l.mem l.line l.invariant.0 k, omega (arith, writes_long k.holds.written, l.invariant.1))

pub returns-in_err-write_part-clause-same_length : goal.returns-in_err-write_part-clause-same_length
returns-in_err-write_part-clause-same_length g c = omega (arith, writes_long c.answer_lines-p.ensures.holds.written, c.loop-p.invariant.1)

pub returns-clause-takes_part : goal.returns-clause-takes_part
returns-clause-takes_part g c =
    let a = c.args in
    let l = c.loop-p in
    reached_end a.mem.now a.line.now a.input.now l.p l.mem l.line (omega arith) l.invariant.0
