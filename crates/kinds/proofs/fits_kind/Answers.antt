-- `kinds::fits_kind` meets its contract. Assumes nothing.
use mathlib.Core.Path.{◌∙◌, ap}
use lib.Dec.{eqb}
use Rattle.kinds.specs.Kinds.{kind_number}
use Rattle.kinds.proofs.KindRule.{fits_eqb, same_kind}
use Rattle.kinds.proofs.fits_kind.Goals as goal

pub returns : goal.returns
returns c =
    c.eq.ensures ∙ same_kind c.kind_of.result c.args.kind ∙ ap (λ k. eqb k (kind_number c.args.kind)) c.kind_of.ensures ∙
    fits_eqb c.args.kind c.args.children
