-- `list_writer::put_long_list` meets its contract: the locations of the tails are copied, then made a list. Assumes nothing.
use native.Mathlib.Omega.{arith}
use Rattle.tail_words.specs.Tail.{tails_in}
use Rattle.list_writer.specs.Written.{taken}
use Rattle.list_writer.proofs.Closing.{written, copied_within}
use Rattle.list_writer.proofs.put_long_list.Goals as goal

pub close_list-kept-requires : goal.close_list-kept-requires
close_list-kept-requires c =
    let a = c.args in
    let h = copied_within (taken a.listed (tails_in a.mem.now a.s.work a.s.lo a.s.hi)) c.put_run-n.ensures c.requires.2 in
    omega (arith, h, c.put_run-n.ensures.long, c.requires.1)

pub behind_list-requires : goal.behind_list-requires
behind_list-requires c =
    let a = c.args in
    let h = copied_within (taken a.listed (tails_in a.mem.now a.s.work a.s.lo a.s.hi)) c.put_run-n.ensures c.requires.2 in
    (omega (arith, h, c.close_list-kept.ensures.few, c.requires.1), c.requires.3)

pub returns : goal.returns
returns c = written _ _ c.put_run-n.ensures c.close_list-kept.ensures c.behind_list.ensures
