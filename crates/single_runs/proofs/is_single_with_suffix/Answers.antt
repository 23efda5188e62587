-- `single_runs::is_single_with_suffix` meets its contract. Assumes nothing.
use native.Mathlib.Omega.{arith}
use borrow.Author.Tests.{eqb-true}
use Rattle.single_runs.proofs.RunLaws.{bare_room, laid_room}
use Rattle.single_runs.proofs.SingleLaws.{single_parts}
use Rattle.single_runs.proofs.is_single_with_suffix.Goals as goal

pub is_bare-requires : goal.is_bare-requires
is_bare-requires c = let r = laid_room _ _ c.requires in omega arith

pub get64-requires : goal.get64-requires
get64-requires c = let r = laid_room _ _ c.requires in omega arith

pub get64-requires-then-get64-eq1 : goal.get64-requires-then-get64-eq1
get64-requires-then-get64-eq1 c = let r = bare_room _ _ (c.is_bare.ensures c.if-not-is_bare.false) 1 (omega (arith, c.get64.ensures, c.if-get64-eq1.true)) c.requires in omega arith

pub returns-then-get64-eq1 : goal.returns-then-get64-eq1
returns-then-get64-eq1 c = λ t. let e = eqb-true c.get64-then-get64-eq1.result 1 t in single_parts _ _ (c.is_bare.ensures c.if-not-is_bare.false) c.requires (omega (arith, c.get64.ensures, c.if-get64-eq1.true)) (omega (arith, e, c.get64-then-get64-eq1.ensures))
