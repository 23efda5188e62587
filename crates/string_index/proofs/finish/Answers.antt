-- `string_index::finish` meets its contract: what the memory holds decides. Assumes nothing.
use Rattle.std.proofs.Common.{ap, ◌∙◌}
use Rattle.std.proofs.lemmas.Result.{err_from_is_err_and}
use Rattle.memory_header.specs.Opening.{Done}
use Rattle.string_index.proofs.FinishCall.{finish_as}
use Rattle.string_index.proofs.finish.Goals as goal

pub returns-in_err-h : goal.returns-in_err-h
returns-in_err-h c =
    let e = finish_as c.args.mem.now _ c.in_err-h.ensures.holds in
    let p = err_from_is_err_and c.from_residual.result c.from_residual.ensures.1 in
    record { answer = rw (p.1, p.2, c.in_err-h.ensures.told) (ap (λ (d : Done). d.refusal) e); memory = ap (λ (d : Done). d.memory) e }

pub returns-in-Open : goal.returns-in-Open
returns-in-Open c =
    let w = rw c.in-Open.is at c.in_ok-h.ensures in
    let e = finish_as c.args.mem.now _ w.holds in
    record { answer = ap (λ (d : Done). d.refusal) e; memory = c.finish_open.ensures ∙ ap (λ (d : Done). d.memory) e }

pub returns-in-Finished : goal.returns-in-Finished
returns-in-Finished c =
    let w = rw c.in-Finished.is at c.in_ok-h.ensures in
    let e = finish_as c.args.mem.now _ w.holds in
    record { answer = ap (λ (d : Done). d.refusal) e; memory = ap (λ (d : Done). d.memory) e }
