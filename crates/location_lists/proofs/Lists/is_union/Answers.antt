-- `location_lists::Lists::is_union` meets its contract: the walk goes over those that count. Assumes nothing.
use Rattle.std.proofs.Common.{ap, ◌∙◌}
use Rattle.trie.specs.Test.{is_union}
use Rattle.location_lists.specs.Lists.{held}
use Rattle.location_lists.proofs.Buffers.{counted}
use Rattle.location_lists.proofs.Lists.is_union.Goals as goal

pub returns-clause-says : goal.returns-clause-says
returns-clause-says c = let a = c.args in c.is_union_of_first.ensures.says ∙ ap (is_union a.back (held a.s.now a.list)) (counted a.s.now a.self.now c.requires.1.room)
