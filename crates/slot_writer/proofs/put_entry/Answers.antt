-- `slot_writer::put_entry` meets its contract: the buffer has what the groups have. Assumes nothing.
use native.Mathlib.Omega.{arith}
use lib.ListN.{length-set}
use Rattle.slot_writer.proofs.SlotTurn.{known_inside, entry_put}
use Rattle.slot_writer.proofs.put_entry.Goals as goal

pub overflow_mul-place : goal.overflow_mul-place
overflow_mul-place c = omega (arith, known_inside c.requires.known _ _ c.requires.group c.rank-rank.ensures, c.requires.table, c.requires.flag)

pub overflow_add-place : goal.overflow_add-place
overflow_add-place c = omega (arith, known_inside c.requires.known _ _ c.requires.group c.rank-rank.ensures, c.requires.table, c.requires.flag)

pub bounds-mem-place : goal.bounds-mem-place
bounds-mem-place c = omega (arith, known_inside c.requires.known _ _ c.requires.group c.rank-rank.ensures, c.requires.table, c.requires.flag)

pub overflow_add-place-2 : goal.overflow_add-place-2
overflow_add-place-2 c = omega (arith, known_inside c.requires.known _ _ c.requires.group c.rank-rank.ensures, c.requires.table, c.requires.flag)

pub put_slot-requires : goal.put_slot-requires
put_slot-requires c =
    let i = known_inside c.requires.known _ _ c.requires.group c.rank-rank.ensures in
    simp length-set (omega (arith, i, c.requires.table, c.requires.flag), c.requires.flag, c.requires.from)

pub returns : goal.returns
returns c = entry_put c.requires.known _ _ _ _ _ _ c.requires.group c.rank-rank.ensures c.tail_byte-byte.ensures c.put_slot.ensures
