-- `list_writer::put_list` meets its contract, by how many tails there are. Assumes nothing.
use Rattle.list_writer.proofs.Closing.{written_none}
use Rattle.list_writer.proofs.put_list.Goals as goal

pub returns-then-s : goal.returns-then-s
returns-then-s c = written_none c.args.listed c.args.mem.now c.args.s.work c.args.s.lo c.args.s.hi c.if-s.true c.put_none.ensures
