-- `kinds::kind_of` meets its contract. Assumes nothing.
use Rattle.std.proofs.Common.{rules, Some, None}
use borrow.Author.Tests.{tests}
use Rattle.std.proofs.lemmas.Iterator.{YieldsList-from_slice}
use Rattle.std.proofs.lemmas.Iterator.Search.{find_from_yields_List}
use Rattle.kinds.specs.Kinds.{has, kinds}
use Rattle.kinds.proofs.KindRule.{first_kind}
use Rattle.kinds.proofs.kind_of.Goals as goal

pub returns-in_err-range : goal.returns-in_err-range
returns-in_err-range c =
    rw c.from_residual.ensures
    (first_kind c.args.children None (find_from_yields_List (λ r. has r c.args.children) c.find.new.self _ None c.in_err-range.ensures.ran (YieldsList-from_slice kinds cc) (λ x b q k. search (rules, tests))))

pub returns : goal.returns
returns c =
    first_kind c.args.children (Some c.in_ok-range.range.now)
    (find_from_yields_List (λ r. has r c.args.children) c.find.new.self _ (Some c.in_ok-range.range) c.in_ok-range.ensures.ran (YieldsList-from_slice kinds cc) (λ x b q k. search (rules, tests)))
