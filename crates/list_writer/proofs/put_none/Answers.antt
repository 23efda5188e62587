-- `list_writer::put_none` meets its contract: a count of zero is an empty list. Assumes nothing.
use native.Mathlib.Omega.{arith}
use Rattle.list_writer.proofs.Copying.{copied_none}
use Rattle.list_writer.proofs.Closing.{written}
use Rattle.list_closing.proofs.Closing.{closed_few_places}
use Rattle.list_writer.proofs.put_none.Goals as goal

pub returns : goal.returns
returns c = written _ _ (copied_none _ _) (closed_few_places _ _ _ 0 (λ j. grind arith) (omega (arith, c.requires.0)) (omega arith) c.put64.ensures) c.behind_list.ensures
