-- `single_runs::bare_single_table` meets its contract. Assumes nothing.
use native.Mathlib.Omega.{arith}
use Rattle.std.proofs.lemmas.Option.{IfSome_then}
use Rattle.single_runs.proofs.RunLaws.{bare_none, bare_room, bare_some, laid_room}
use Rattle.single_runs.proofs.bare_single_table.Goals as goal

pub is_bare-requires : goal.is_bare-requires
is_bare-requires c = let r = laid_room _ _ c.requires in omega arith

pub get64-n-requires : goal.get64-n-requires
get64-n-requires c = let r = laid_room _ _ c.requires in omega arith

pub single_table-requires : goal.single_table-requires
single_table-requires c = let r = laid_room _ _ c.requires in omega arith

pub returns-then-n-eq0 : goal.returns-then-n-eq0
returns-then-n-eq0 c = IfSome_then _ c.single_table.ensures (bare_none _ _ (c.is_bare.ensures c.if-not-is_bare.false) _ c.get64-n.ensures c.if-n-eq0.true)

pub overflow_mul-n : goal.overflow_mul-n
overflow_mul-n c = let r = bare_room _ _ (c.is_bare.ensures c.if-not-is_bare.false) _ c.get64-n.ensures c.requires in omega arith

pub overflow_add-at-3 : goal.overflow_add-at-3
overflow_add-at-3 c = let r = bare_room _ _ (c.is_bare.ensures c.if-not-is_bare.false) _ c.get64-n.ensures c.requires in omega arith

pub single_table-requires-2 : goal.single_table-requires-2
single_table-requires-2 c = bare_room _ _ (c.is_bare.ensures c.if-not-is_bare.false) _ c.get64-n.ensures c.requires

pub returns : goal.returns
returns c = IfSome_then _ c.single_table-2.ensures (bare_some _ _ (c.is_bare.ensures c.if-not-is_bare.false) _ c.get64-n.ensures)
