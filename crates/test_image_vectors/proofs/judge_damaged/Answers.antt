-- `judge_damaged` changes one byte of the image and puts it back. Assumes nothing.
use Prim.Native.Nat.{◌+◌}
use Rattle.test_image_vectors.proofs.Vectors.{damaged_none, damaged_one, put_back}
use Rattle.test_image_vectors.proofs.judge_damaged.Goals as goal

pub returns-then-c-index-clause-value : goal.returns-then-c-index-clause-value
returns-then-c-index-clause-value c =
    let g = c.args in
    damaged_none g.bytes.now g.c.start g.c.len g.index g.byte _ c.if-c-index.true c.check.ensures

pub returns-clause-value : goal.returns-clause-value
returns-clause-value c =
    let g = c.args in
    damaged_one g.bytes.now g.c.start g.c.len g.index g.byte _ c.if-c-index.false c.check-verdict.ensures

pub returns-clause-bytes_unchanged : goal.returns-clause-bytes_unchanged
returns-clause-bytes_unchanged c =
    let g = c.args in
    put_back g.bytes.now (g.c.start + g.index) g.byte
