-- `tail_records::expand` meets its contract: what is still to be written of the log, written, is always the same.
-- Assumes nothing.
use Rattle.tail_records.proofs.Entering.{expanding_asks, expanding_turn, expanding_count, expanding_done}
use Rattle.tail_records.proofs.expand.Goals as goal

pub put_tails-t-requires : goal.put_tails-t-requires
put_tails-t-requires c =
    let p = c.requires in
    let q = expanding_asks _ _ _ p.0 p.1 p.2 c.loop-j.invariant c.loop-j-test.true in
    (q.sound, q.before, q.room)

pub loop-j-preserved : goal.loop-j-preserved
loop-j-preserved c = expanding_turn _ _ _ c.requires.0 c.requires.1 c.requires.2 c.loop-j.invariant _ _ c.loop-j-test.true c.put_tails-t.ensures.count c.put_tails-t.ensures.bytes

pub returns : goal.returns
returns c = record { count = expanding_count _ _ _ c.requires.0 c.requires.1 c.requires.2 c.loop-j.invariant c.loop-j-test.false; bytes = expanding_done _ _ _ c.requires.0 c.requires.1 c.requires.2 c.loop-j.invariant c.loop-j-test.false }
