-- `fields::open_table` meets its contract. Assumes nothing.
use native.Mathlib.Omega.{arith}
use mathlib.Core.Path.{◌∙◌, ap, refl, sym}
use Rattle.definitions.specs.Refusals.{cause_of}
use Rattle.definitions.proofs.Checks.{number_some}
use Rattle.kinds.specs.Kinds.{kind_number}
use Rattle.kinds.proofs.KindRule.{is_other_kind}
use Rattle.kinds.specs.declared.NodeKind.TheVariants as K
use Rattle.image_format.proofs.Tables.{open_count, open_cut, open_fault, open_ready, open_within, range_most, table_turns}
use Rattle.fields.specs.Answers.{table_of}
use Rattle.fields.proofs.Passed.{passed}
use Rattle.fields.proofs.Tables.{table_numbered}
use Rattle.fields.proofs.open_table.Goals as goal

pub returns-then-s-at-lt8-clause-table : goal.returns-then-s-at-lt8-clause-table
returns-then-s-at-lt8-clause-table c = open_cut _ _ _ (is_other_kind c.args.kind K.Dense c.if-eq.ensures) (omega arith)

pub returns-then-not-fits_kind-clause-table : goal.returns-then-not-fits_kind-clause-table
returns-then-not-fits_kind-clause-table c = open_count _ _ _ (is_other_kind c.args.kind K.Dense c.if-eq.ensures) _ c.get64-count.ensures (omega arith) (sym c.if-not-fits_kind.ensures)

pub returns-in_err-table_fault-clause-table : goal.returns-in_err-table_fault-clause-table
returns-in_err-table_fault-clause-table c =
    ap table_of (passed _ _ c.from_residual.ensures.1) ∙
    open_fault _ _ _ (is_other_kind c.args.kind K.Dense c.if-eq.ensures) _ _ c.get64-count.ensures (omega arith) (sym c.if-not-fits_kind.ensures) c.in_err-table_fault.ensures
    (number_some (cause_of c.in_err-table_fault.field-0.0))

pub overflow_mul-result : goal.overflow_mul-result
overflow_mul-result c = omega (arith, range_most (kind_number c.args.kind) c.get64-count.result (is_other_kind c.args.kind K.Dense c.if-eq.ensures) (sym c.if-not-fits_kind.ensures))

pub overflow_add-result : goal.overflow_add-result
overflow_add-result c = omega (arith, range_most (kind_number c.args.kind) c.get64-count.result (is_other_kind c.args.kind K.Dense c.if-eq.ensures) (sym c.if-not-fits_kind.ensures))

pub invariant_of-result : goal.invariant_of-result
invariant_of-result c =
    let opened =
    table_numbered _ _ c.number.ensures ∙ table_turns _ _ _ _ c.turns_of.ensures ∙
    open_ready _ _ _ (is_other_kind c.args.kind K.Dense c.if-eq.ensures) _ _ c.get64-count.ensures (omega arith) (sym c.if-not-fits_kind.ensures) c.in_ok-table_fault.ensures refl in
    record { within = (open_within _ _ _ _ opened).0 }

pub returns-clause-table : goal.returns-clause-table
returns-clause-table c =
    table_numbered _ _ c.number.ensures ∙ table_turns _ _ _ _ c.turns_of.ensures ∙
    open_ready _ _ _ (is_other_kind c.args.kind K.Dense c.if-eq.ensures) _ _ c.get64-count.ensures (omega arith) (sym c.if-not-fits_kind.ensures) c.in_ok-table_fault.ensures refl
