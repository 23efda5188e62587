-- `end_places::find_end` meets its contract: the places found are tidied, unless they have no room. Assumes nothing.
use borrow.Author.Rules.{rules}
use Rattle.end_places.proofs.Laying.{end_over, end_laid}
use Rattle.end_places.proofs.find_end.Goals as goal

pub returns-in_err-find_places : goal.returns-in_err-find_places
returns-in_err-find_places c = rw c.from_residual.ensures (end_over c.args.i c.requires.0 c.requires.1 c.behind-places.ensures c.in_err-find_places.ensures)

pub returns : goal.returns
returns c = end_laid c.args.i c.requires.0 c.requires.1 c.behind-places.ensures c.in_ok-find_places.ensures c.tidy.ensures (search rules)
