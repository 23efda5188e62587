-- `PlaceSet::take_list` meets its contract: a list that is copied behind the places is added whole. Assumes nothing.
use native.Mathlib.Omega.{arith}
use mathlib.Core.Path.{refl}
use Rattle.place_buffer.proofs.Adding.{taken_copied}
use Rattle.place_buffer.proofs.PlaceSet.take_list.Goals as goal

pub returns : goal.returns
returns c = taken_copied _ _ _ refl refl refl refl c.if-self.false c.requires (omega arith) c.copy.ensures
