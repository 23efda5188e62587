-- `row_buffer::hand_over` meets its contract: the rows are joined, and refused where they have no room. Assumes nothing.
use native.Mathlib.Omega.{arith}
use mathlib.Core.Path.{refl}
use Rattle.row_buffer.proofs.Answering.{rows_refused, rows_written}
use Rattle.row_buffer.proofs.hand_over.Goals as goal

pub returns-then-room-count : goal.returns-then-room-count
returns-then-room-count c = let w = rows_refused _ _ _ c.combine_split_times-count.ensures.count c.if-room-count.true refl in
    record { found = w.0; rows = w.1 }

pub returns : goal.returns
returns c = let w = rows_written _ _ _ _ (omega (arith, c.requires)) (λ j. grind arith) c.combine_split_times-count.ensures.count c.if-room-count.false c.combine_split_times-count.ensures.bytes refl in
    record { found = w.0; rows = w.1 }
