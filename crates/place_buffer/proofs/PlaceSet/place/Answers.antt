-- `PlaceSet::place` meets its contract: each way that it goes is one of the laws of adding. Assumes nothing.
use native.Mathlib.Omega.{arith}
use mathlib.Core.Path.{refl}
use Rattle.place_buffer.proofs.Adding.{tidied_tight, taken_tidied}
use Rattle.place_buffer.proofs.PlaceSet.place.Goals as goal

pub returns-then-self-count : goal.returns-then-self-count
returns-then-self-count c = taken_tidied c.tidy.ensures c.if-full.false refl refl refl refl refl c.append-then-self-count.ensures

pub invariant_of-self : goal.invariant_of-self
invariant_of-self c = record { valid = tidied_tight c.tidy.ensures c.if-self-count.false (omega (arith, c.args.self.now.valid.within)) }

pub returns : goal.returns
returns c = taken_tidied c.tidy.ensures c.if-full.false refl refl refl refl refl c.look_up-2.ensures
