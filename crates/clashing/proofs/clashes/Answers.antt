-- `clashing::clashes` meets its contract: what its searches tell of the certificate holds of the pieces. Assumes nothing.
use native.Mathlib.Omega.{arith}
use mathlib.Core.Path.{sym, ◌∙◌}
use borrow.Author.Tests.{eqb-true, eqb-false}
use Rattle.location.specs.Plain.{plain}
use Rattle.memory_header.specs.Answers.{header_of}
use Rattle.clashing.proofs.Answering.{says_none, begun, from_inside, line_below, says_struck, says_among}
use Rattle.clashing.proofs.clashes.Goals as goal

pub returns-then-n-eq0 : goal.returns-then-n-eq0
returns-then-n-eq0 c =
    let a = c.args in
    says_none a.mem.now (header_of a.h) (plain a.x) a.n (omega (arith, eqb-true))

pub first_from-upto-requires : goal.first_from-upto-requires
first_from-upto-requires c =
    let s = begun (λ k. omega (arith, c.type_inv.mem k)) c.requires.0 c.certificate_of-v.result c.certificate_of-v.ensures (plain c.args.x) c.lowest.ensures c.first_from-from.ensures in
    from_inside s

pub strikes_below-requires : goal.strikes_below-requires
strikes_below-requires c =
    let s = begun (λ k. omega (arith, c.type_inv.mem k)) c.requires.0 c.certificate_of-v.result c.certificate_of-v.ensures (plain c.args.x) c.lowest.ensures c.first_from-from.ensures in
    line_below s c.first_from-upto.ensures

pub returns-then-strikes_below : goal.returns-then-strikes_below
returns-then-strikes_below c =
    let s = begun (λ k. omega (arith, c.type_inv.mem k)) c.requires.0 c.certificate_of-v.result c.certificate_of-v.ensures (plain c.args.x) c.lowest.ensures c.first_from-from.ensures in
    says_struck s c.first_from-upto.ensures (omega (arith, eqb-false)) c.requires.1 (sym c.if-strikes_below.true ∙ c.strikes_below.ensures)

pub lives_among-requires : goal.lives_among-requires
lives_among-requires c =
    let s = begun (λ k. omega (arith, c.type_inv.mem k)) c.requires.0 c.certificate_of-v.result c.certificate_of-v.ensures (plain c.args.x) c.lowest.ensures c.first_from-from.ensures in
    (line_below s c.first_from-upto.ensures).high

pub returns : goal.returns
returns c =
    let s = begun (λ k. omega (arith, c.type_inv.mem k)) c.requires.0 c.certificate_of-v.result c.certificate_of-v.ensures (plain c.args.x) c.lowest.ensures c.first_from-from.ensures in
    says_among s c.first_from-upto.ensures (omega (arith, eqb-false)) c.requires.1 (sym c.if-strikes_below.false ∙ c.strikes_below.ensures) c.lives_among.ensures
