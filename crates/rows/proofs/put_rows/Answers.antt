-- `rows::put_rows`: where the loop ends all n rows are handed over.
use Rattle.std.proofs.Common.{◌≡◌, arith, ◌∙◌, ap}
use Rattle.rows.proofs.Copied.{copied, copied_is}
use Rattle.rows.proofs.put_rows.Goals as goal

pub returns : goal.returns
returns c =
    let e : c.loop-i.i ≡ c.args.n = omega arith in
    c.loop-i.invariant ∙ ap (copied c.args.rows.now c.args.from.now) e ∙ copied_is c.args.from.now c.args.rows.now c.args.n c.requires.0
