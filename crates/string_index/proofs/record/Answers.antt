-- `string_index::record` meets its contract: what the memory holds decides. Assumes nothing.
use Rattle.std.proofs.Common.{ap}
use Rattle.std.proofs.lemmas.Result.{err_from_is_err_and}
use Rattle.location.specs.Plain.{plain}
use Rattle.memory_header.specs.Opening.{Done}
use Rattle.recording.proofs.Outcome.{record_as}
use Rattle.string_index.proofs.record.Goals as goal

pub returns-in_err-h : goal.returns-in_err-h
returns-in_err-h c =
    let a = c.args in
    let e = record_as a.mem.now a.kind (record { bytes = a.«data».now; at = plain a.l }) _ c.in_err-h.ensures.holds in
    let p = err_from_is_err_and c.from_residual.result c.from_residual.ensures.1 in
    record { answer = rw (p.1, p.2, c.in_err-h.ensures.told) (ap (λ (d : Done). d.refusal) e); memory = ap (λ (d : Done). d.memory) e }

pub returns-in-Finished : goal.returns-in-Finished
returns-in-Finished c =
    let w = rw c.in-Finished.is at c.in_ok-h.ensures in
    let a = c.args in
    let e = record_as a.mem.now a.kind (record { bytes = a.«data».now; at = plain a.l }) _ w.holds in
    record { answer = ap (λ (d : Done). d.refusal) e; memory = ap (λ (d : Done). d.memory) e }
