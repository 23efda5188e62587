-- `list_closing::close_many` meets its contract: the locations that are left are the set of those given. Assumes nothing.
use native.Mathlib.Omega.{arith}
use Rattle.list_closing.proofs.Closing.{closed}
use Rattle.list_closing.proofs.close_many.Goals as goal

pub returns : goal.returns
returns c =
    closed _ _ _ _ _ _ _ (λ j. grind arith) (λ j. grind arith)
    (λ j. grind arith) c.requires c.sort.ensures c.drop_repeats-kept.ensures.bytes c.drop_repeats-kept.ensures.count c.put64.ensures
