-- `searching::find_all` meets its contract: one byte is found as it stands, more are found loosely or exactly. Assumes nothing.
use native.Mathlib.Omega.{arith}
use lib.Seq.{get_or-set_same}
use borrow.Author.Rules.{rules}
use Rattle.node_joining.specs.Found.{rooted}
use Rattle.end_places.proofs.Laying.{laid_one, one_over, one_laid, found_after}
use Rattle.searching.proofs.find_all.Goals as goal

pub find_end-requires : goal.find_end-requires
find_end-requires c =
    let args = c.args in
    (omega arith, laid_one (rooted args.search.query.img.now) args.search.query.bytes.now args.ends.now args.scratch.now c.if-search-eq1.true (omega arith))

pub returns-in_err-ends : goal.returns-in_err-ends
returns-in_err-ends c =
    rw c.from_residual.ensures (one_over _ _ c.if-search-eq1.true (get_or-set_same c.args.ends.now 1 0 0 (omega arith)) c.in_err-ends.ensures)

pub returns-then-search-eq1 : goal.returns-then-search-eq1
returns-then-search-eq1 c = one_laid _ _ c.if-search-eq1.true (get_or-set_same c.args.ends.now 1 0 0 (omega arith)) c.in_ok-ends.ensures

pub returns-in-Some : goal.returns-in-Some
returns-in-Some c = record { found = c.in-Some.ensures }

pub find_exactly-requires : goal.find_exactly-requires
find_exactly-requires c = (omega arith, omega (arith, c.find_loosely.auto))

pub returns-in-None : goal.returns-in-None
returns-in-None c = found_after c.find_exactly.ensures (search rules)
