-- `location::put_location` meets its contract: the three numbers, written one after the other, are the bytes of the location. Assumes nothing.
use Rattle.location.specs.Plain.{plain}
use Rattle.location.proofs.Bytes.{put_in_turn}
use Rattle.location.proofs.put_location.Goals as goal

pub returns : goal.returns
returns c =
    let a = c.args in
    let f = put_in_turn a.s.now c.put64.new.s c.put64-2.new.s c.put64-3.new.s a.at (plain a.l) in
    f c.put64.ensures c.put64-2.ensures c.put64-3.ensures
