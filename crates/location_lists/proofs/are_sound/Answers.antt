-- `location_lists::are_sound` meets its contract: what is left is sound just where all are. Assumes nothing.
use native.Mathlib.Omega.{arith}
use mathlib.Core.Path.{ap, ◌∙◌, sym}
use Rattle.trie.specs.Test.{all_pass}
use Rattle.location_lists.proofs.Single.{rest_all, rest_none, sound_not, sound_high, sound_on}
use Rattle.location_lists.proofs.are_sound.Goals as goal

pub loop-i-init : goal.loop-i-init
loop-i-init c = let a = c.args in ap (all_pass a.depth) (rest_all a.s.now a.list.at a.list.count)

pub returns-then-l : goal.returns-then-l
returns-then-l c = let a = c.args in sound_not a.s.now a.list.at a.list.count a.depth _ c.loop-i-test.true _ c.location_at-l.ensures c.if-l.true ∙ c.loop-i.invariant

pub returns-then-top-l : goal.returns-then-top-l
returns-then-top-l c = let a = c.args in sound_high a.s.now a.list.at a.list.count a.depth _ c.loop-i-test.true _ c.location_at-l.ensures (omega arith) (omega arith) ∙ c.loop-i.invariant

pub loop-i-preserved : goal.loop-i-preserved
loop-i-preserved c = let a = c.args in sound_on a.s.now a.list.at a.list.count a.depth _ c.loop-i-test.true _ c.location_at-l.ensures (omega arith) (omega arith) ∙ c.loop-i.invariant

pub returns : goal.returns
returns c = let a = c.args in sym (ap (all_pass a.depth) (rest_none a.s.now a.list.at a.list.count _ c.loop-i-test.false)) ∙ c.loop-i.invariant
