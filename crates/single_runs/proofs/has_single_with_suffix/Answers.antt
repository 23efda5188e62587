-- `single_runs::has_single_with_suffix` meets its contract. Assumes nothing.
use mathlib.Core.Path.{refl}
use Rattle.single_runs.proofs.RunLaws.{behind, laid_behind}
use Rattle.single_runs.proofs.SingleLaws.{behind_some, single_in}
use Rattle.single_runs.proofs.has_single_with_suffix.Goals as goal

pub is_single_with_suffix-requires : goal.is_single_with_suffix-requires
is_single_with_suffix-requires c =
    let b = behind_some _ _ _ _ c.byte_behind.ensures c.is_some.ensures c.if-is_some.true in
    laid_behind c.args.s.now c.args.table b.0 b.1 c.requires

pub returns-then-is_some : goal.returns-then-is_some
returns-then-is_some c = λ e.
    let b = behind_some _ _ _ _ c.byte_behind.ensures c.is_some.ensures c.if-is_some.true in
    single_in c.args.s.now c.args.table _ (behind c.args.s.now c.args.table b.0 b.1) refl (c.is_single_with_suffix.ensures e)
