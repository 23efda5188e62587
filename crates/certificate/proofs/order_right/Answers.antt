-- `certificate::order_right` meets its contract: the tests are passed by the certificate of pieces free of conflicts alone. Assumes nothing.
use native.Mathlib.Omega.{arith}
use Rattle.certificate.proofs.Answers.{sound, log_within, entries_room, entries_wrong, within, below, line_wrong, lined, none_decides}
use Rattle.certificate.proofs.order_right.Goals as goal

pub entries_right-requires : goal.entries_right-requires
entries_right-requires c = (
  log_within c.args.mem.now (λ j. omega (arith, c.type_inv.mem j)) c.requires,
  sound c.args.mem.now (λ j. omega (arith, c.type_inv.mem j)) c.requires,
  entries_room c.args.mem.now (λ j. omega (arith, c.type_inv.mem j)) c.requires c.certificate_at-base.ensures c.filled-count.ensures,
)

pub returns-then-not-entries_right : goal.returns-then-not-entries_right
returns-then-not-entries_right c =
    entries_wrong c.args.mem.now (λ j. omega (arith, c.type_inv.mem j)) c.requires c.certificate_at-base.ensures c.filled-count.ensures c.entries_right.ensures c.if-not-entries_right.true

pub invariant_of-line : goal.invariant_of-line
invariant_of-line c = record {
  within = within c.args.mem.now (λ j. omega (arith, c.type_inv.mem j)) c.requires c.certificate_at-base.ensures c.filled-count.ensures c.entries_right.ensures c.if-not-entries_right.false;
}

pub returns-then-not-in_line : goal.returns-then-not-in_line
returns-then-not-in_line c =
    line_wrong c.args.mem.now (λ j. omega (arith, c.type_inv.mem j)) c.requires c.certificate_at-base.ensures c.filled-count.ensures c.entries_right.ensures c.if-not-entries_right.false
    c.in_line.ensures c.if-not-in_line.true

pub invariant_of-entries : goal.invariant_of-entries
invariant_of-entries c = record {
  lined = lined c.args.mem.now (λ j. omega (arith, c.type_inv.mem j)) c.requires c.certificate_at-base.ensures c.filled-count.ensures c.entries_right.ensures c.if-not-entries_right.false
      c.in_line.ensures c.if-not-in_line.false;
}

pub invariant_of-none_inside-clause-below : goal.invariant_of-none_inside-clause-below
invariant_of-none_inside-clause-below c =
    below c.args.mem.now (λ j. omega (arith, c.type_inv.mem j)) c.requires c.certificate_at-base.ensures c.filled-count.ensures c.entries_right.ensures c.if-not-entries_right.false

pub returns : goal.returns
returns c =
    none_decides c.args.mem.now (λ j. omega (arith, c.type_inv.mem j)) c.requires c.certificate_at-base.ensures c.filled-count.ensures c.entries_right.ensures c.if-not-entries_right.false
    c.in_line.ensures c.if-not-in_line.false c.none_inside.ensures
