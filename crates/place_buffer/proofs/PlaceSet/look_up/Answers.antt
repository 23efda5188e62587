-- `PlaceSet::look_up` meets its contract: a place that is none of a tight set has no room. Assumes nothing.
use mathlib.Core.Path.{refl, subst}
use mathlib.Core.Bool.{Bool}
use Rattle.location.specs.Plain.{plain}
use Rattle.place_buffer.specs.Buffer.{held}
use Rattle.place_lookup.specs.Lookup.{There}
use Rattle.place_buffer.proofs.Adding.{taken_there, taken_new}
use Rattle.place_buffer.proofs.PlaceSet.look_up.Goals as goal

pub returns-then-has : goal.returns-then-has
returns-then-has c =
    let args = c.args in
    taken_there (plain args.l) c.requires.1 (subst (λ (b : Bool). There b (plain args.l) (held args.self.now)) c.if-has.true c.has.ensures)

pub returns-else-has : goal.returns-else-has
returns-else-has c =
    let args = c.args in
    taken_new (plain args.l) c.requires.1 refl refl refl refl c.requires.0 (subst (λ (b : Bool). There b (plain args.l) (held args.self.now)) c.if-has.false c.has.ensures)
