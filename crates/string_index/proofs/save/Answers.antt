-- `string_index::save` meets its contract: what the memory holds decides. Assumes nothing.
use Rattle.std.proofs.Common.{ap}
use Rattle.std.proofs.lemmas.Result.{err_from_is_err_and}
use Rattle.saving.specs.Saving.{Saving}
use Rattle.saving.proofs.Laws.{save_as}
use Rattle.string_index.proofs.save.Goals as goal

pub returns-in_err-inspect-clause-answer : goal.returns-in_err-inspect-clause-answer
returns-in_err-inspect-clause-answer c =
    let e = save_as c.args.mem.now c.args.out.now _ c.in_err-inspect.ensures.holds in
    let p = err_from_is_err_and c.from_residual.result c.from_residual.ensures.1 in
    rw (p.1, p.2, c.in_err-inspect.ensures.told) (ap (λ (f : Saving). f.refusal) e)

pub returns-in_err-inspect-clause-buffer : goal.returns-in_err-inspect-clause-buffer
returns-in_err-inspect-clause-buffer c = ap (λ (f : Saving). f.buffer) (save_as c.args.mem.now c.args.out.now _ c.in_err-inspect.ensures.holds)

pub returns-in-Open-clause-answer : goal.returns-in-Open-clause-answer
returns-in-Open-clause-answer c =
    let w = rw c.in-Open.is at c.in_ok-inspect.ensures in
    ap (λ (f : Saving). f.refusal) (save_as c.args.mem.now c.args.out.now _ w.holds)

pub returns-in-Open-clause-buffer : goal.returns-in-Open-clause-buffer
returns-in-Open-clause-buffer c =
    let w = rw c.in-Open.is at c.in_ok-inspect.ensures in
    ap (λ (f : Saving). f.buffer) (save_as c.args.mem.now c.args.out.now _ w.holds)
