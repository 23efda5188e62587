-- `judge_parts`: what is said of the parts of n bytes and more, after what is said so far. Assumes nothing.
use native.Mathlib.Omega.{arith}
use Rattle.fields.specs.Answers.{layout_of}
use Rattle.test_image_vectors.proofs.Saying.{parts_more, parts_end}
use Rattle.test_image_vectors.specs.Said.{said_in}
use Rattle.test_image_vectors.proofs.judge_parts.Goals as goal

pub loop-n-preserved : goal.loop-n-preserved
loop-n-preserved g c =
    let l = c.loop-n in
    parts_more c.args.img.now l.n (said_in l.page.last) _ _ (layout_of c.check.result) (omega arith) l.invariant c.check.ensures c.say.ensures

pub returns : goal.returns
returns g c =
    let l = c.loop-n in
    parts_end c.args.img.now l.n (said_in l.page.last) _ (omega arith) l.invariant
