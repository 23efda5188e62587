-- `finishing::sort_tails` meets its contract. Assumes nothing.
use native.Mathlib.Omega.{arith}
use Rattle.finishing.proofs.Sorted.{tails_sorted}
use Rattle.finishing.proofs.sort_tails.Goals as goal

pub returns : goal.returns
returns c =
    let r = c.expand-n in
    tails_sorted _ r.new.mem _ _ _ _ (λ j. grind arith) (omega arith) c.requires r.ensures.count r.ensures.bytes c.sort.ensures
