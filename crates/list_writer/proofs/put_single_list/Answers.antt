-- `list_writer::put_single_list` meets its contract: at most one location is copied, and made a list. Assumes nothing.
use native.Mathlib.Omega.{arith}
use Rattle.list_writer.proofs.Copying.{single_asks, single_copied, few_taken}
use Rattle.list_closing.proofs.Closing.{closed_few_places}
use Rattle.list_writer.proofs.Closing.{written}
use Rattle.list_writer.proofs.put_single_list.Goals as goal

pub returns : goal.returns
returns c =
    let asks = single_asks _ _ _ _ _ c.requires.0 (λ j. grind arith) c.requires.1 in
    let copied = single_copied _ _ _ _ _ c.requires.0 (λ j. grind arith) c.requires.1 _ _ (λ j. grind arith) c.put_taken-n.ensures.count c.put_taken-n.ensures.bytes in
    written _ _ copied (closed_few_places _ _ _ c.put_taken-n.result (λ j. grind arith) (omega (arith, c.requires.0, c.put_taken-n.ensures.count, c.put_taken-n.auto.mem)) (few_taken _ _ c.put_taken-n.ensures.count) c.put64.ensures) c.behind_list.ensures
