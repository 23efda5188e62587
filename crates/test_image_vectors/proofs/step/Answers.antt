-- `test_image_vectors::step` meets its contract. Assumes nothing.
use Rattle.test_image_vectors.proofs.Vectors.{vector_damaged, vector_whole}
use Rattle.test_image_vectors.specs.Vector.{reached}
use Rattle.test_image_vectors.proofs.step.Goals as goal

pub returns-then-mode-eq2-clause-value : goal.returns-then-mode-eq2-clause-value
returns-then-mode-eq2-clause-value g c = vector_damaged c.args.bytes.now (reached c.args.c c.args.page.now.last) _ c.if-mode-eq2.true c.damaged.ensures.value

pub returns-else-mode-eq2-clause-value : goal.returns-else-mode-eq2-clause-value
returns-else-mode-eq2-clause-value g c = vector_whole c.args.bytes.now (reached c.args.c c.args.page.now.last) _ c.if-mode-eq2.false c.whole.ensures.value
