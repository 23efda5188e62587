-- `clashing::reaches` meets its contract: what is asked of all entries is asked of those before k. Assumes nothing.
use Rattle.std.proofs.Common.{ℕ, ap, ◌∙◌, arith}
use borrow.Author.Tests.{ltb-true, ltb-false, leb-true, leb-false}
use Rattle.definitions.specs.Location.{Location}
use Rattle.location.specs.Plain.{plain}
use Rattle.clashing.proofs.Reaching.{reach_done, reach_ended, reach_found, reach_on}
use Rattle.clashing.proofs.reaches.Goals as goal

abbrev address-of : Location → ℕ
address-of l = l.address

abbrev ending_of : Location → ℕ
ending_of l = l.destroyed

pub returns-then-y-x : goal.returns-then-y-x
returns-then-y-x c =
    let a = c.args in
    reach_ended a.v.entries.line (plain a.x) a.g a.q c.loop-k.k c.requires c.args.v.entries.lined (omega arith) (omega arith) (omega (arith, leb-true, ap ending_of c.location-y.ensures)) ∙ c.loop-k.invariant.1

pub returns-then-x-y : goal.returns-then-x-y
returns-then-x-y c =
    let a = c.args in
    reach_found a.v.entries.line (plain a.x) a.g a.q c.loop-k.k c.requires c.args.v.entries.lined (omega arith) (omega arith) (omega (arith, leb-false, ap ending_of c.location-y.ensures)) (omega (arith, ltb-true, c.piece_size.ensures, ap address-of c.location-y.ensures)) ∙ c.loop-k.invariant.1

pub loop-k-preserved : goal.loop-k-preserved
loop-k-preserved c =
    let a = c.args in (
      omega arith,
      reach_on a.v.entries.line (plain a.x) a.g c.loop-k.k (omega arith) (omega (arith, ltb-false, c.piece_size.ensures, ap address-of c.location-y.ensures)) ∙ c.loop-k.invariant.1,
    )

pub returns : goal.returns
returns c =
    let a = c.args in
    reach_done a.v.entries.line (plain a.x) a.g c.loop-k.k c.loop-k.invariant.0 (omega arith) ∙ c.loop-k.invariant.1
