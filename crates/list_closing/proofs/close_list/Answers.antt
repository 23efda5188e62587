-- `list_closing::close_list` meets its contract: at most one location is its own set. Assumes nothing.
use native.Mathlib.Omega.{arith}
use Rattle.list_closing.proofs.Closing.{closed_few_places}
use Rattle.list_closing.proofs.close_list.Goals as goal

pub returns : goal.returns
returns c = closed_few_places _ _ _ _ (λ j. grind arith) c.requires c.if-n-gt1.false c.put64.ensures
