-- `places::run` is safe and ends. Assumes nothing.
use native.Mathlib.Omega.{arith}
use Rattle.replies.proofs.Writing.{writes_long}
use Rattle.places.proofs.run.Goals as goal

pub write_part-requires : goal.write_part-requires
write_part-requires g c =
    let w = c.answer_end.ensures in
    omega (arith, w.short, writes_long w.written)
