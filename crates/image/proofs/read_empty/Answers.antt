-- `image::read_empty` meets its contract. Assumes nothing.
use Prim.Native.Nat.{◌*◌, ◌+◌, ℕ}
use native.Mathlib.Omega.{arith}
use mathlib.Core.Path.{◌∙◌, ◌≡◌, ap, sym}
use Rattle.image_format.proofs.Roots.{counts_cut, counts_end, counts_on, counts_wrong}
use Rattle.image_format.specs.Reading.{done}
use Rattle.image.proofs.read_empty.Goals as goal

pub returns-then-s-at-lt8 : goal.returns-then-s-at-lt8
returns-then-s-at-lt8 c = counts_cut _ _ _ (omega arith) (omega arith) ∙ c.loop-i.invariant.1

pub returns-then-get64-ne0 : goal.returns-then-get64-ne0
returns-then-get64-ne0 c = counts_wrong _ _ _ (omega arith) (omega arith) (λ e. c.if-get64-ne0.true (c.get64.ensures ∙ e)) ∙ c.loop-i.invariant.1

pub loop-i-preserved : goal.loop-i-preserved
loop-i-preserved c = (omega arith, counts_on _ _ _ (omega arith) _ _ (omega arith) (omega arith) (omega arith) (sym c.get64.ensures ∙ c.if-get64-ne0.false) ∙ c.loop-i.invariant.1)

pub returns : goal.returns
returns c =
    let e : 25 ≡ 1 + c.loop-i.i * 8 = omega arith in
    ap (λ (k : ℕ). done k 1 1 0) e ∙ counts_end _ _ _ (omega arith) ∙ c.loop-i.invariant.1
