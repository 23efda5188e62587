-- `collecting::take_any` meets its contract: an empty list adds nothing. Assumes nothing.
use Rattle.collecting.proofs.Nodes.{empty_taken}
use Rattle.collecting.proofs.take_any.Goals as goal

pub returns-then-list-eq0 : goal.returns-then-list-eq0
returns-then-list-eq0 c = empty_taken _ _ _ c.if-places.false c.if-list-eq0.true
