-- `searching::find_loosely` meets its contract: what has room with more places kept than there are has room. Assumes nothing.
use Rattle.end_places.proofs.Laying.{ending_most, found_loosely}
use Rattle.searching.proofs.find_loosely.Goals as goal

pub returns : goal.returns
returns c = found_loosely (ending_most c.args.search.query.bytes.now c.requires.0 c.args.search.query.ending) c.find_from.ensures
