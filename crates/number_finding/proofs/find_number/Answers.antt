-- `number_finding::find_number` meets its contract: a right number is found as its characters are, a wrong one is refused. Assumes nothing.
use native.Mathlib.Omega.{arith}
use Prim.Native.Nat.{ℕ}
use mathlib.Core.Path.{sym, ap, ◌∙◌}
use lib.ListN.{length, length-take}
use Rattle.row_buffer.specs.Answer.{refused, finding_of}
use Rattle.finding.proofs.FindCall.{none_finds}
use Rattle.check_character.proofs.Detecting.{right_view}
use Rattle.number_finding.proofs.ByNumber.{wrong_is_refused, right_finds}
use Rattle.number_finding.proofs.find_number.Goals as goal

pub returns-then-not-is_number : goal.returns-then-not-is_number
returns-then-not-is_number c =
    let a = c.args in
    let wrong = sym c.is_number.ensures ∙ c.if-not-is_number.true in
    let w = none_finds a.scratch.now _ (wrong_is_refused a.mem.now a.typed.now (length a.scratch.now) a.room wrong)
    (ap (λ (n : ℕ). finding_of (refused n)) c.wrong_number.ensures) in
    record { found = w.0; rows = w.1.0; scratch = w.1.1 }

pub slice_bounds-find-end : goal.slice_bounds-find-end
slice_bounds-find-end c =
    let a = c.args in
    let t = right_view a.typed.now (sym c.is_number.ensures ∙ c.if-not-is_number.false) in
    simp length-take (omega (arith, t.length_14))

pub returns : goal.returns
returns c =
    let a = c.args in
    let is_right = sym c.is_number.ensures ∙ c.if-not-is_number.false in
    let w = right_finds a.mem.now a.typed.now a.scratch.now a.room is_right (c.find.ensures.found, (c.find.ensures.rows, c.find.ensures.scratch)) in
    record { found = w.0; rows = w.1.0; scratch = w.1.1 }
