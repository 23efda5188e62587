-- `certificate::certificate_of` meets its contract: the entries that are stored are in line. Assumes nothing.
use native.Mathlib.Omega.{arith}
use Rattle.certificate.proofs.Stored.{stored_within, stored_lined, stored_below}
use Rattle.certificate.proofs.certificate_of.Goals as goal

pub invariant_of-line : goal.invariant_of-line
invariant_of-line c = record { within = stored_within c.args.mem.now (λ j. omega (arith, c.type_inv.mem j)) _ _ c.requires _ c.certificate_at.ensures }

pub invariant_of-entries : goal.invariant_of-entries
invariant_of-entries c = record { lined = stored_lined c.args.mem.now (λ j. omega (arith, c.type_inv.mem j)) _ _ c.requires _ c.certificate_at.ensures }

pub invariant_of-result-clause-below : goal.invariant_of-result-clause-below
invariant_of-result-clause-below c = stored_below c.args.mem.now (λ j. omega (arith, c.type_inv.mem j)) _ _ c.requires _ c.certificate_at.ensures
