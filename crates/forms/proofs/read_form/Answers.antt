-- `forms::read_form` meets its contract: the answer is the line's, and its bytes stand before the two parentheses that end it. Assumes nothing.
use native.Mathlib.Omega.{arith}
use Rattle.forms.proofs.Reading.{reads_bad, reads_none, line_behind, reads_some}
use Rattle.forms.proofs.read_form.Goals as goal

pub returns-in_err-form : goal.returns-in_err-form
returns-in_err-form c = rw c.from_residual.ensures (reads_bad _ _ c.in_err-form.ensures)

pub returns-then-n-eq0 : goal.returns-then-n-eq0
returns-then-n-eq0 c = reads_none _ _ _ _ c.in_ok-form.ensures c.byte_count-n.ensures c.if-n-eq0.true

pub overflow_sub-line : goal.overflow_sub-line
overflow_sub-line c = omega (arith, line_behind c.args.line.now c.args.bytes.now c.in_ok-form.form c.byte_count-n.result c.in_ok-form.ensures c.byte_count-n.ensures c.if-n-eq0.false)

pub overflow_mul-n : goal.overflow_mul-n
overflow_mul-n c = omega (arith, line_behind c.args.line.now c.args.bytes.now c.in_ok-form.form c.byte_count-n.result c.in_ok-form.ensures c.byte_count-n.ensures c.if-n-eq0.false)

pub overflow_sub-line-2 : goal.overflow_sub-line-2
overflow_sub-line-2 c = omega (arith, line_behind c.args.line.now c.args.bytes.now c.in_ok-form.form c.byte_count-n.result c.in_ok-form.ensures c.byte_count-n.ensures c.if-n-eq0.false)

pub decode-requires : goal.decode-requires
decode-requires c = omega (arith, line_behind c.args.line.now c.args.bytes.now c.in_ok-form.form c.byte_count-n.result c.in_ok-form.ensures c.byte_count-n.ensures c.if-n-eq0.false)

pub returns : goal.returns
returns c = reads_some _ _ _ _ c.in_ok-form.ensures c.byte_count-n.ensures c.if-n-eq0.false _ c.decode.ensures
