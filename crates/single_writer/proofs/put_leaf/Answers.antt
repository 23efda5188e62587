-- `single_writer::put_leaf` meets its contract: a tail that ends is the one run, and its table has no child. Assumes nothing.
use Prim.Native.Nat.{◌+◌}
use native.Mathlib.Omega.{arith}
use mathlib.Core.Path.{refl}
use mathlib.Core.Bool.{false}
use Rattle.single_writer.proofs.SingleChain.{one_run, ends_run, front_room, leaf_written}
use Rattle.single_writer.proofs.put_leaf.Goals as goal

pub put_front-front-requires : goal.put_front-front-requires
put_front-front-requires c =
    let a = c.args in
    let parts = one_run a.mem.now a.work a.i a.d c.from.result false c.ends-inside.result c.ends-inside.ensures c.from.ensures in
    let e = ends_run a.mem.now a.work a.i a.d (a.i + c.from.result) c.requires.1 parts in
    record { asked = c.requires.0; first = parts; second = omega (arith, e, parts); few = omega arith }

pub put64-requires : goal.put64-requires
put64-requires c = omega (arith, front_room c.put_front-front.ensures c.requires.0, c.put_front-front.ensures.long, c.requires.0.memory)

pub overflow_add-result : goal.overflow_add-result
overflow_add-result c = omega (arith, front_room c.put_front-front.ensures c.requires.0, c.requires.0.memory)

pub returns : goal.returns
returns c =
    let x = leaf_written c.requires.0 c.put_front-front.ensures c.put64.ensures in
    record { end = c.put_front-front.result; front = x.0; table = x.1; at = refl; nodes = refl; entries = refl }
