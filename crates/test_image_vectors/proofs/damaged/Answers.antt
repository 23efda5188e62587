-- `test_image_vectors::damaged` meets its contract. Assumes nothing.
use Rattle.fields.specs.Answers.{layout_of}
use Rattle.test_image_vectors.proofs.Vectors.{damaged_leads}
use Rattle.test_image_vectors.specs.Vector.{reached}
use Rattle.test_image_vectors.proofs.damaged.Goals as goal

pub returns-clause-value : goal.returns-clause-value
returns-clause-value g c =
    let a = c.args in
    damaged_leads a.bytes.now (reached a.c a.page.now.last) _ (layout_of c.judge_damaged.result) _ c.get64-index.ensures c.judge_damaged.ensures.value c.say.ensures
