-- `PlaceSet::tidy` meets its contract: the places that are left are within scratch. Assumes nothing.
use mathlib.Core.Path.{sym}
use native.Mathlib.Omega.{arith}
use Rattle.records.proofs.Order.{clash}
use Rattle.place_buffer.proofs.Scratch.{tidied_le}
use Rattle.place_buffer.proofs.PlaceSet.tidy.Goals as goal

pub invariant_of-self-2 : goal.invariant_of-self-2
invariant_of-self-2 c =
    let t = c.tidy-self.ensures in
    let v = c.args.self.now.valid in
    record {
      valid = record {
        from = omega (arith, t.next);
        within = omega (arith, tidied_le t v.from, v.within, t.same_length);
        ascending = λ g. clash (sym g);
        no_room = λ g. clash (sym g);
      };
    }
