-- `image_conflicts::is_clear` meets its contract: the first location behind the first address, and then one that lives. Assumes nothing.
use Rattle.location.specs.Plain.{plain}
use Rattle.lined_locations.specs.Line.{location_of}
use Rattle.image_conflicts.proofs.Inside.{first_within, inside_told}
use Rattle.image_conflicts.proofs.is_clear.Goals as goal

pub lives_among-requires : goal.lives_among-requires
lives_among-requires c =
    let a = c.args in
    first_within a.v.line.count (location_of a.v.line) a.v.lined _ _ _ c.first_from-g.ensures

pub returns : goal.returns
returns c =
    let a = c.args in
    let g = c.first_from-g in
    let r = c.lives_among in
    inside_told a.v.line.count (location_of a.v.line) a.v.lined a.m (plain a.x) g.result g.ensures r.result r.ensures
