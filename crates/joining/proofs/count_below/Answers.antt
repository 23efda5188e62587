-- `joining::count_below` meets its contract: those below the key stand first. Assumes nothing.
use borrow.Author.Rules.{rules}
use Rattle.joining.proofs.Search.{below_key, key_parts, key_point}
use Rattle.joining.proofs.count_below.Goals as goal

pub returns : goal.returns
returns c =
    let a = c.args in
    let up = c.requires.sorted in
    key_point a.img.now a.list.count a.list.at a.key up _ c.partition_point.ensures.within.1
    (c.partition_point.ensures.point (below_key a.img.now a.list.count a.list.at a.key up) (λ i z h b k. search rules) (key_parts a.img.now a.list.count a.list.at a.key up))
