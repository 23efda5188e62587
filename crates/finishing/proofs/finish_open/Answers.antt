-- `finishing::finish_open` meets its contract. Assumes nothing.
use native.Mathlib.Omega.{arith}
use mathlib.Core.Path.{refl, ◌∙◌}
use Rattle.index_memory.proofs.Holding.{open_is}
use Rattle.finishing.proofs.Image.{small_nodes, small_entries, tails_asked, image_asked}
use Rattle.finishing.proofs.Closing.{closable, closes}
use Rattle.finishing.proofs.finish_open.Goals as goal

pub work_at-work-requires : goal.work_at-work-requires
work_at-work-requires c = (small_nodes _ _ _ (λ j. grind arith) (open_is _ _ _ c.requires.1), small_entries _ _ _ (λ j. grind arith) (open_is _ _ _ c.requires.1))

pub sort_tails-tails-requires : goal.sort_tails-tails-requires
sort_tails-tails-requires c = tails_asked _ _ _ (λ j. grind arith) (open_is _ _ _ c.requires.1) _ c.work_at-work.ensures

pub put_image-end-requires : goal.put_image-end-requires
put_image-end-requires c = image_asked _ _ _ (λ j. grind arith) (open_is _ _ _ c.requires.1) _ c.work_at-work.ensures _ _ c.sort_tails-tails.ensures

pub put_finished-requires : goal.put_finished-requires
put_finished-requires c = closable _ _ _ (λ j. grind arith) (open_is _ _ _ c.requires.1) _ c.work_at-work.ensures _ _ c.sort_tails-tails.ensures _ _ c.put_image-end.ensures c.args.h _ refl _ c.closed-closed.ensures

pub returns : goal.returns
returns c = c.put_finished.ensures ∙ closes _ _ _ (λ j. grind arith) (open_is _ _ _ c.requires.1) _ c.work_at-work.ensures _ _ c.sort_tails-tails.ensures _ _ c.put_image-end.ensures c.args.h _ refl c.closed-closed.ensures
