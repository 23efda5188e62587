-- `searching::find_exactly` meets its contract: as many places are kept for the last byte as it has. Assumes nothing.
use borrow.Author.Rules.{rules}
use Rattle.node_joining.proofs.Asked.{ending_here}
use Rattle.end_places.proofs.Laying.{ending_counted, found_not, found_exactly}
use Rattle.searching.proofs.find_exactly.Goals as goal

pub count_both-count-requires : goal.count_both-count-requires
count_both-count-requires c =
    let here = ending_here c.args.search.query.ending in
    (here.suffixes.within, here.chunks.within, here.suffixes.sorted, here.chunks.sorted)

pub returns-then-scratch-count : goal.returns-then-scratch-count
returns-then-scratch-count c = found_not (ending_counted c.args.search.query.bytes.now c.requires.0 c.args.search.query.ending c.count_both-count.ensures) c.if-scratch-count.true

pub returns : goal.returns
returns c = found_exactly (ending_counted c.args.search.query.bytes.now c.requires.0 c.args.search.query.ending c.count_both-count.ensures) c.find_from.ensures (search rules)
