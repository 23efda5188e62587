-- `fields::all_met` meets its contract. Assumes nothing.
use mathlib.Core.Path.{◌∙◌, sym}
use Rattle.image_format.proofs.Nodes.{end_dense, end_few, end_sparse}
use Rattle.fields.proofs.all_met.Goals.{else-kind-eq1-via-then-kind-eq1+else-not-fits_kind, else-kind-eq1-via-else-kind-eq1}
use Rattle.fields.proofs.all_met.Goals as goal

pub returns-then-not-fits_kind : goal.returns-then-not-fits_kind
returns-then-not-fits_kind c = λ t k. end_few t _ _ _ _ (k ∙ c.if-kind-eq1.true) (sym c.if-not-fits_kind.ensures)

pub returns : goal.returns
returns c = λ t k.
    elim c.else-kind-eq1.branch [
      | else-kind-eq1-via-then-kind-eq1+else-not-fits_kind w ↦ end_dense t _ _ _ _ (k ∙ w.if-kind-eq1.true) (sym w.if-not-fits_kind.ensures)
      | else-kind-eq1-via-else-kind-eq1 w ↦ end_sparse t _ _ _ _ (λ e. w.if-kind-eq1.false (sym k ∙ e))
    ]
