-- `PlaceSet::append` meets its contract: a place that is written behind the others is one more. Assumes nothing.
use mathlib.Core.Path.{refl}
use Rattle.location.specs.Plain.{plain}
use Rattle.place_buffer.proofs.Adding.{taken_behind}
use Rattle.place_buffer.proofs.PlaceSet.append.Goals as goal

pub returns : goal.returns
returns c =
    let l = c.well_formed.1.0.1.1 in
    taken_behind (plain c.args.l) c.requires.1 refl refl refl refl (record { address = l.0.1.1.0.1; created = l.1.0.1.1.0.1; destroyed = l.1.1.0.1.1.0.1 }) c.requires.2 c.put_location.ensures
