-- `handing_over::search_number`: what is handed over is what `find_number` found. Assumes nothing.
use Rattle.std.proofs.Common.{ap, ◌∙◌, length}
use Rattle.definitions.specs.Refusals.{number_in}
use Rattle.number_finding.specs.FindNumber.{find_number_memory}
use Rattle.handing_over.proofs.Numbers.{number_fit, search_is_find_number}
use Rattle.handing_over.proofs.Searched.{asked, hands}
use Rattle.handing_over.proofs.search_number.Goals as goal

pub hand_over-requires : goal.hand_over-requires
hand_over-requires c =
    let a = c.args in
    let k = c.find_number-found.ensures in
    asked (find_number_memory a.mem.now a.typed.now (length a.scratch.now) (length a.rows.now)) a.scratch.now a.rows.now _ (k.found, (k.rows, k.scratch))
    (number_fit a.mem.now a.typed.now (length a.scratch.now) (length a.rows.now))

pub returns : goal.returns
returns c =
    let a = c.args in
    let k = c.find_number-found.ensures in
    let h = c.hand_over.ensures in
    let w =
    hands (find_number_memory a.mem.now a.typed.now (length a.scratch.now) (length a.rows.now)) a.scratch.now a.rows.now (search_is_find_number a.mem.now a.typed.now (length a.scratch.now) a.rows.now) _
    (k.found, (k.rows, k.scratch)) _ h.rows in
    record { answer = ap number_in h.answer ∙ w.number; count = rw h.answer w.count; rows = w.rows; scratch = w.scratch }
