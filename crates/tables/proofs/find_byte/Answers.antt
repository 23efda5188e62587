-- `tables::find_byte` meets its contract. Assumes nothing.
use native.Mathlib.Omega.{arith}
use mathlib.Core.Path.{◌∙◌, ◌≡◌}
use Rattle.image_format.proofs.Entries.{find_end, find_here, find_on}
use Rattle.tables.proofs.find_byte.Goals as goal

pub returns-then-s-base : goal.returns-then-s-base
returns-then-s-base c = (c.loop-j-test.true, find_here _ _ _ _ _ c.loop-j-test.true c.if-s-base.true ∙ c.loop-j.invariant)

pub loop-j-preserved : goal.loop-j-preserved
loop-j-preserved c = find_on _ _ _ _ _ c.loop-j-test.true c.if-s-base.false ∙ c.loop-j.invariant

pub returns : goal.returns
returns c =
    let e : c.args.n ≡ c.loop-j.j = omega arith in
    e ∙ find_end c.args.s.now c.args.base c.args.b c.args.n c.loop-j.j c.loop-j-test.false ∙ c.loop-j.invariant
