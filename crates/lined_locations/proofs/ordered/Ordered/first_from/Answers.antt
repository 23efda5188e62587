-- `lined_locations::Ordered::first_from` meets its contract: the point of the search is the first that does not come before. Assumes nothing.
use borrow.Author.Rules.{rules}
use Rattle.lined_locations.specs.Line.{location_of}
use Rattle.lined_locations.proofs.Search.{is_earlier, earlier_parts, first_is}
use Rattle.lined_locations.proofs.ordered.Ordered.first_from.Goals as goal

pub returns : goal.returns
returns c =
    let a = c.args in
    let n = a.self.line.count in
    let at = location_of a.self.line in
    first_is n at a.from a.b a.c _ c.partition_point.ensures.within
    (c.partition_point.ensures.point (is_earlier n at a.from a.b a.c) (λ i z h r k. search rules) (earlier_parts n at a.from a.b a.c a.self.lined))
