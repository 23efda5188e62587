-- `ordering::put_entry` meets its contract: the two numbers, written one after the other, are the bytes of the entry. Assumes nothing.
use Rattle.ordering.proofs.Writes.{put_in_turn}
use Rattle.ordering.proofs.put_entry.Goals as goal

pub returns : goal.returns
returns c =
    let a = c.args in
    put_in_turn a.mem.now c.put64.new.s c.put64-2.new.s a.at a.number a.end c.put64.ensures c.put64-2.ensures
