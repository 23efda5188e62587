-- `inspecting::inspect` meets its contract: the header, and then the log with its certificate or the image. Assumes nothing.
use Rattle.std.proofs.Common.{sym, ◌∙◌, arith}
use Rattle.std.proofs.lemmas.Result.{err_from_is_err_and}
use Rattle.inspecting.proofs.Facts.{no_header, log_broken, held_open, order_broken, held_finished, image_broken}
use Rattle.inspecting.proofs.inspect.Goals as goal

pub returns-in_err-h : goal.returns-in_err-h
returns-in_err-h c = let p = err_from_is_err_and c.from_residual.result c.from_residual.ensures.1 in
    rw (p.1, p.2) (no_header c.args.mem.now c.header_in.result c.in_err-h.field-0.0 c.header_in.ensures c.in_err-h.ensures.value)

pub returns-in-Ok-Open : goal.returns-in-Ok-Open
returns-in-Ok-Open c =
    held_open c.args.mem.now c.in_ok-h.h (grind arith) (grind arith) (sym c.log_right.ensures ∙ c.if-log_right.true) (sym c.order_right.ensures ∙ c.if-order_right.true)

pub returns-in-Ok-Finished : goal.returns-in-Ok-Finished
returns-in-Ok-Finished c = held_finished c.args.mem.now c.in_ok-h.h (grind arith) (grind arith) c.if-image_right.ensures

pub returns-in_default : goal.returns-in_default
returns-in_default c =
    order_broken c.args.mem.now c.in_ok-h.h (grind arith) (grind arith) (sym c.log_right.ensures ∙ c.if-log_right.true) (sym c.order_right.ensures ∙ c.if-order_right.false)

pub returns-in_default-2 : goal.returns-in_default-2
returns-in_default-2 c = log_broken c.args.mem.now c.in_ok-h.h (grind arith) (grind arith) (sym c.log_right.ensures ∙ c.if-log_right.false)

pub returns-in_default-3 : goal.returns-in_default-3
returns-in_default-3 c = image_broken c.args.mem.now c.in_ok-h.h (grind arith) (grind arith) c.if-image_right.ensures
