-- `end_places::find_beyond` meets its contract, which is that of either call. Assumes nothing.
use Rattle.node_joining.proofs.Nodes.{reached_front, reached_inside}
use Rattle.end_places.proofs.find_beyond.Goals as goal

pub returns-then-front : goal.returns-then-front
returns-then-front c = reached_front _ c.if-front.true c.collect_all_substrings.ensures

pub returns : goal.returns
returns c = reached_inside _ c.if-front.false c.find_suffixes.ensures
