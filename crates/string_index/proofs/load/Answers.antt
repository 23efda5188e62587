-- `string_index::load` meets its contract: an open index and a finished one are replaced alike. Assumes nothing.
use Rattle.std.proofs.Common.{ap}
use Rattle.std.proofs.lemmas.Result.{err_from_is_err_and}
use Rattle.memory_header.specs.Opening.{Done}
use Rattle.saving.proofs.Laws.{load_broken}
use Rattle.string_index.proofs.load.Goals as goal

pub returns-in_err-h : goal.returns-in_err-h
returns-in_err-h c =
    let e = load_broken c.args.mem.now c.args.image.now c.in_err-h.ensures.holds in
    let p = err_from_is_err_and c.from_residual.result c.from_residual.ensures.1 in
    record { answer = rw (p.1, p.2, c.in_err-h.ensures.told) (ap (λ (d : Done). d.refusal) e); memory = ap (λ (d : Done). d.memory) e }
