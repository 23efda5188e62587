-- `list_writer::is_taken` meets its contract: the third number of a tail says whether it is a whole piece. Assumes nothing.
use mathlib.Core.Path.{refl}
use Rattle.list_writer.proofs.Copying.{whole_taken}
use Rattle.list_writer.proofs.is_taken.Goals as goal

pub returns-in-Wholes : goal.returns-in-Wholes
returns-in-Wholes c = rw c.in-Wholes.is (whole_taken c.args.mem.now c.args.work c.args.i c.get64.result c.get64.ensures refl)
