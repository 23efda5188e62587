-- `test_image_vectors::judge_image` meets its contract. Assumes nothing.
use mathlib.Core.Path.{ap, ◌∙◌}
use Rattle.fields.specs.Answers.{layout_of}
use Rattle.test_image_vectors.specs.Said.{said_in, said_after}
use Rattle.test_image_vectors.proofs.Saying.{whole_parts, whole_alone}
use Rattle.test_image_vectors.proofs.judge_image.Goals as goal
use Rattle.test_image_vectors.proofs.judge_image.Goals.{then-parts, else-parts}

pub returns : goal.returns
returns g c =
    let img = c.args.img.now in
    let l = layout_of c.check.result in
    elim c.if-parts.branch [
      | then-parts w ↦ whole_parts img _ _ l c.check.ensures (said_in c.if-parts.page.last) c.args.parts w.if-parts.true (ap (λ p. said_in p.last) w.page-is ∙ w.judge_parts.ensures) c.say.ensures
      | else-parts w ↦ whole_alone img _ _ l c.check.ensures c.args.parts w.if-parts.false (c.say.ensures ∙ ap (λ p. said_after (said_in p.last) l) w.page-is)
    ]
