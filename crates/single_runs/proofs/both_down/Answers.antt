-- `single_runs::both_down` meets its contract. Assumes nothing.
use native.Mathlib.Omega.{arith}
use Rattle.single_runs.proofs.RunLaws.{goes_behind, laid_behind, laid_room, without_lists}
use Rattle.single_runs.proofs.both_down.Goals as goal

pub is_single_without_lists-requires : goal.is_single_without_lists-requires
is_single_without_lists-requires c = let r = laid_room _ _ (laid_behind c.args.s.now c.args.from.table _ c.in_ok-byte.ensures c.requires.0) in omega arith

pub bare_single_table-requires : goal.bare_single_table-requires
bare_single_table-requires c = laid_behind c.args.s.now c.args.from.other _ c.in_ok-front.ensures c.requires.1

pub returns : goal.returns
returns c =
    goes_behind c.args.s.now c.args.from _ _ _ c.in_ok-byte.ensures c.in_ok-front.ensures c.if-front-byte.false (without_lists _ _ (c.is_single_without_lists.ensures c.if-not-is_single_without_lists.false)) c.in_ok-other.ensures
