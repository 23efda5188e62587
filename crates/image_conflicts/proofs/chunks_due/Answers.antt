-- `image_conflicts::chunks_due` meets its contract: no more than are due, and all clear. Assumes nothing.
use mathlib.Core.Path.{◌∙◌}
use Rattle.lined_locations.specs.Line.{location_of}
use Rattle.image_conflicts.proofs.Chunks.{due_over, due_left}
use Rattle.image_conflicts.proofs.chunks_due.Goals as goal

pub returns-in_err-rest : goal.returns-in_err-rest
returns-in_err-rest c =
    let a = c.args in
    c.from_residual.ensures ∙ due_over (location_of a.v.line) a.v.line.count a.m a.v.line.bytes.now a.chunks.at a.chunks.count a.due c.in_err-rest.ensures

pub returns : goal.returns
returns c =
    let a = c.args in
    let r = c.all_clear in
    c.then_some.ensures ∙ due_left (location_of a.v.line) a.v.line.count a.m a.v.line.bytes.now a.chunks.at a.chunks.count a.due c.in_ok-rest.ensures.0 r.result r.ensures _ c.in_ok-rest.ensures.1
