-- `test_image_vectors::whole` meets its contract. Assumes nothing.
use Rattle.test_image_vectors.proofs.Vectors.{whole_leads}
use Rattle.test_image_vectors.specs.Vector.{reached}
use Rattle.test_image_vectors.proofs.whole.Goals as goal

pub returns-clause-value : goal.returns-clause-value
returns-clause-value g c =
    let a = c.args in
    whole_leads a.bytes.now (reached a.c a.page.now.last) a.parts c.get64.result c.min-len.result _ c.get64.ensures c.min-len.ensures c.judge_image.ensures
