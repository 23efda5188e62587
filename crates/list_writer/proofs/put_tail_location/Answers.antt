-- `list_writer::put_tail_location` meets its contract: what is read is the tail's location. Assumes nothing.
use mathlib.Core.Path.{◌∙◌, ap}
use lib.Seq.{sets}
use Rattle.definitions.specs.Location.{Location, location_bytes}
use Rattle.list_writer.proofs.Copying.{tail_location}
use Rattle.list_writer.proofs.put_tail_location.Goals as goal

pub returns : goal.returns
returns c = c.put_location.ensures ∙ ap (λ (l : Location). sets c.args.mem.now c.args.to (location_bytes l)) (c.location_at-l.ensures ∙ tail_location c.args.mem.now c.args.work c.args.i)
