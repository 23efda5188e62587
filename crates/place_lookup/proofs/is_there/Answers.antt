-- `place_lookup::is_there` meets its contract: the first place that does not come before l is l, or l is none of them. Assumes nothing.
use Rattle.std.proofs.Common.{◌≡◌, Bool, true, false, not, nat_lt, refl, sym, ◌∙◌, rules}
use Rattle.definitions.specs.Location.{locations_in}
use Rattle.location.specs.Plain.{plain}
use Rattle.place_lookup.specs.Lookup.{There}
use Rattle.place_lookup.proofs.Search.{look_past, look_after, look_there}
use Rattle.place_lookup.proofs.is_there.Goals as goal

pub returns-then-i-n : goal.returns-then-i-n
returns-then-i-n c = go c.before-then-i-n.result refl
  where
    go : (o : Bool) → c.before-then-i-n.result ≡ o → There (not o) (plain c.args.l) (locations_in c.args.scratch.now c.args.n c.args.at)
    go true e = look_after _ _ _ _ _ c.places_before-i.ensures c.requires.1 c.if-i-n.true c.location_at.ensures (sym c.before-then-i-n.ensures ∙ e)
    go false e = look_there _ _ _ _ _ c.places_before-i.ensures c.if-i-n.true c.location_at.ensures (sym c.before-then-i-n.ensures ∙ e)

pub returns-else-i-n : goal.returns-else-i-n
returns-else-i-n c =
    let e : nat_lt c.places_before-i.result c.args.n ≡ false = search rules in
    rw e (look_past _ _ _ _ _ c.places_before-i.ensures c.if-i-n.false)
