-- `saving::load_into` meets its contract: the image's own refusal, or what its tally decides. Assumes nothing.
use mathlib.Core.Path.{sym, ap, ◌∙◌}
use Rattle.std.proofs.lemmas.Result.{err_from_is_err_and}
use Rattle.memory_header.specs.Opening.{Done}
use Rattle.memory_header.specs.Answers.{header_of}
use Rattle.saving.proofs.Laws.{fault_over, load_as}
use Rattle.saving.proofs.Theorems.{image_refusal}
use Rattle.saving.proofs.load_into.Goals as goal

pub returns-in_err-t : goal.returns-in_err-t
returns-in_err-t c =
    let a = c.args in
    let x = sym c.in_err-t.ensures in
    let e = fault_over (header_of a.h).capacity a.mem.now a.s.now _ (image_refusal a.s.now _ x) ∙ load_as a.mem.now a.s.now _ _ c.requires x in
    let p = err_from_is_err_and c.from_residual.result c.from_residual.ensures.1 in
    record { answer = rw (p.1, p.2) (ap (λ (d : Done). d.refusal) e); memory = ap (λ (d : Done). d.memory) e }
