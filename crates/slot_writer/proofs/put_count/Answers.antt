-- `slot_writer::put_count` meets its contract, by the kind. Assumes nothing.
use mathlib.Core.Path.{◌∙◌, ap, refl, sym}
use Rattle.words.proofs.Parts.{set_le64_sets}
use Rattle.kinds.specs.Kinds.{kind_number}
use Rattle.slot_writer.proofs.SlotTurn.{dense_is}
use Rattle.slot_writer.proofs.put_count.Goals as goal

pub returns-in-Dense : goal.returns-in-Dense
returns-in-Dense c = record { kind = c.node_kind-kind.ensures; dense = λ h. (refl, refl, refl, refl); sparse = λ h. absurd (h (sym c.node_kind-kind.ensures ∙ ap kind_number c.in-Dense.is)) }

pub returns : goal.returns
returns c = record { kind = c.node_kind-kind.ensures; dense = λ h. absurd (c.in_default.not-Dense (dense_is _ (c.node_kind-kind.ensures ∙ h))); sparse = λ h. (refl, refl, refl, c.put64.ensures ∙ set_le64_sets _ _ _) }
