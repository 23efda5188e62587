-- `fronts::fronts_within` meets its contract: by a search for each byte, or by marks. Assumes nothing.
use Rattle.std.proofs.Common.{rules}
use Rattle.fronts.specs.Marks.{has_child, marked}
use Rattle.fronts.proofs.WithinLaws.{found_within, marks_within}
use Rattle.fronts.proofs.fronts_within.Goals as goal

pub returns-then-table-le-FEW : goal.returns-then-table-le-FEW
returns-then-table-le-FEW c d e g fs t h =
    let a = c.args in
    found_within a.s.now a.table.at a.table.count d g t fs (c.has_each_front.ensures (has_child a.s.now a.table.at a.table.count) (λ b r l k. search rules) e fs h)

pub returns : goal.returns
returns c d e g fs t h =
    let a = c.args in
    let m = c.marks_of-marks in
    marks_within a.s.now a.table.at a.table.count m.result m.ensures d g t fs (c.has_each_front-2.ensures (marked m.result) (λ b r l k. search rules) e fs h)
