-- `slot_writer::dense_group` meets its contract. Assumes nothing.
use Rattle.slot_writer.proofs.SlotTurn.{dense_late}
use Rattle.slot_writer.proofs.dense_group.Goals as goal

pub returns-then-groups-met : goal.returns-then-groups-met
returns-then-groups-met c = dense_late c.requires c.if-groups-met.true
