-- `slot_writer::group_of` meets its contract, by the kind. Assumes nothing.
use mathlib.Core.Path.{ap}
use Rattle.kinds.specs.Kinds.{kind_number}
use Rattle.slot_writer.proofs.SlotTurn.{picked_three, picked_two, picked_dense}
use Rattle.slot_writer.proofs.group_of.Goals as goal

pub returns-in-ByArrival : goal.returns-in-ByArrival
returns-in-ByArrival c = picked_three c.requires (ap kind_number c.in-ByArrival.is) c.with_rank.ensures

pub returns-in-ByByte : goal.returns-in-ByByte
returns-in-ByByte c = picked_two c.requires (ap kind_number c.in-ByByte.is)

pub returns-in-Dense : goal.returns-in-Dense
returns-in-Dense c = picked_dense c.requires (ap kind_number c.in-Dense.is) c.dense_group.ensures
