-- `place_lookup::places_before` meets its contract: the search by halves finds where the places no longer come before it. Assumes nothing.
use Rattle.std.proofs.Common.{rules}
use Rattle.location.specs.Plain.{plain}
use Rattle.place_lookup.proofs.Before.{before, before_parts, before_point}
use Rattle.place_lookup.proofs.places_before.Goals as goal

pub returns : goal.returns
returns c =
    let a = c.args in
    before_point a.scratch.now a.n a.at (plain a.l) c.requires.1 _ c.partition_point.ensures.within.1 (c.partition_point.ensures.point (before a.scratch.now a.n a.at (plain a.l)) (λ i lo up b e. search rules) (before_parts a.scratch.now a.n a.at (plain a.l) c.requires.1))
