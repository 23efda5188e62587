-- `check_character::sum_of` meets its contract: the characters passed were summed. Assumes nothing.
use native.Mathlib.Omega.{arith}
use mathlib.Core.Path.{◌∙◌}
use Rattle.check_character.proofs.Characters.{characters_off, summed, summed_all}
use Rattle.check_character.proofs.sum_of.Goals as goal

pub returns-in_err-v : goal.returns-in_err-v
returns-in_err-v c =
    let l = c.args.number.now in
    let v = c.in_err-v.ensures in
    let e = characters_off l c.loop-i.i (omega arith) (omega arith) ∙ c.loop-i.invariant.passed in
    rw c.from_residual.ensures (λ f. absurd (cc))

pub loop-i-preserved : goal.loop-i-preserved
loop-i-preserved c =
    let v = c.in_ok-v.ensures in
    summed c.args.number.now c.loop-i.i c.loop-i.sum (omega arith) c.in_ok-v.v v.1 (omega arith) c.weighted_value-sum.result c.weighted_value-sum.ensures c.loop-i.invariant

pub returns : goal.returns
returns c = summed_all c.args.number.now c.loop-i.i c.loop-i.sum (omega arith) c.loop-i.invariant
