-- `single_writer::put_single` meets its contract: no run holds a tail that goes on, and its table has one child. Assumes nothing.
use native.Mathlib.Omega.{arith}
use mathlib.Core.Path.{refl}
use mathlib.Core.Bool.{true, false}
use lib.ListN.{length-set}
use Rattle.single_writer.proofs.SingleChain.{goes_run, single_short, front_room, front_held, single_written}
use Rattle.single_writer.proofs.put_single.Goals as goal

pub put_front-front-requires : goal.put_front-front-requires
put_front-front-requires c = record { asked = c.requires.0; first = goes_run _ _ _ _ false c.requires.2; second = goes_run _ _ _ _ true c.requires.2; few = omega arith }

pub tail_byte-byte-requires : goal.tail_byte-byte-requires
tail_byte-byte-requires c = (omega (arith, single_short c.requires.0.held), omega (arith, c.put_front-front.ensures.long, c.requires.0.memory), front_held c.requires.0 c.put_front-front.ensures)

pub put64-requires : goal.put64-requires
put64-requires c = omega (arith, front_room c.put_front-front.ensures c.requires.0, c.put_front-front.ensures.long, c.requires.0.memory)

pub overflow_add-mem : goal.overflow_add-mem
overflow_add-mem c = omega (arith, front_room c.put_front-front.ensures c.requires.0, c.requires.0.memory)

pub bounds-mem-table : goal.bounds-mem-table
bounds-mem-table c = omega (arith, front_room c.put_front-front.ensures c.requires.0, c.put_front-front.ensures.long, c.requires.0.memory, c.put64.auto.s)

pub overflow_add-table : goal.overflow_add-table
overflow_add-table c = omega (arith, front_room c.put_front-front.ensures c.requires.0, c.requires.0.memory)

pub overflow_add-table-2 : goal.overflow_add-table-2
overflow_add-table-2 c = omega (arith, front_room c.put_front-front.ensures c.requires.0, c.requires.0.memory)

pub put_slot-requires : goal.put_slot-requires
put_slot-requires c =
    let f = c.put_front-front.ensures in
    let room = front_room f c.requires.0 in
    simp length-set (omega (arith, room, f.long, c.requires.0.memory, c.put64.auto.s), omega (arith, room, f.long, c.requires.0.memory, c.put64.auto.s), omega (arith, f.at, c.requires.1))

pub overflow_add-result : goal.overflow_add-result
overflow_add-result c = omega (arith, front_room c.put_front-front.ensures c.requires.0, c.requires.0.memory)

pub returns : goal.returns
returns c =
    let x = single_written c.requires.0 c.put_front-front.ensures c.requires.1 c.tail_byte-byte.ensures c.put64.ensures c.put_slot.ensures in
    record { end = c.put_front-front.result; front = x.0; table = x.1; at = refl; nodes = refl; entries = refl }
