-- `finding::find` meets its contract: what the memory holds decides. Assumes nothing.
use mathlib.Core.Path.{◌≡◌, refl, ap, subst, ◌∙◌}
use Rattle.std.specs.Prelude.{Ok, Err}
use Rattle.std.proofs.lemmas.Result.{err_from_is_err_and}
use Rattle.definitions.specs.declared.refusal.Refusal.TheVariants.{IndexRuleBroken}
use Rattle.definitions.specs.Causes.{number, index_rule_broken, before_finish}
use Rattle.inspecting.specs.declared.Held.{Held}
use Rattle.inspecting.specs.Held.{Inspects}
use Rattle.row_buffer.specs.Answer.{finding_in}
use Rattle.finding.proofs.FindCall.{finds, none_finds}
use Rattle.finding.proofs.find.Goals as goal

pub returns-in_err-inspect : goal.returns-in_err-inspect
returns-in_err-inspect c =
    let a = c.args in
    let w = c.in_err-inspect.ensures in
    let p = err_from_is_err_and c.from_residual.result c.from_residual.ensures.1 in
    let same : c.from_residual.result ≡ Err IndexRuleBroken = p.1 ∙ ap Err (p.2 ∙ w.told) in
    let f = finds a.mem.now a.q.now a.scratch.now a.room _ w.holds (none_finds a.scratch.now (number index_rule_broken) refl refl) in
    record { found = ap finding_in same ∙ f.0; rows = f.1.0; scratch = f.1.1 }

pub find_finished-requires : goal.find_finished-requires
find_finished-requires c =
    let w = subst (λ (h : Held). Inspects c.args.mem.now (Ok h)) c.in-Finished.is c.in_ok-inspect.ensures in
    w.told

pub returns-in-Open : goal.returns-in-Open
returns-in-Open c =
    let a = c.args in
    let w = subst (λ (h : Held). Inspects a.mem.now (Ok h)) c.in-Open.is c.in_ok-inspect.ensures in
    let f = finds a.mem.now a.q.now a.scratch.now _ _ w.holds (none_finds a.scratch.now (number before_finish) refl refl) in
    record { found = f.0; rows = f.1.0; scratch = f.1.1 }

pub returns-in-Finished : goal.returns-in-Finished
returns-in-Finished c =
    let a = c.args in
    let w = subst (λ (h : Held). Inspects a.mem.now (Ok h)) c.in-Finished.is c.in_ok-inspect.ensures in
    let f = finds a.mem.now a.q.now a.scratch.now _ _ w.holds (c.find_finished.ensures.found, (c.find_finished.ensures.rows, c.find_finished.ensures.scratch)) in
    record { found = f.0; rows = f.1.0; scratch = f.1.1 }
