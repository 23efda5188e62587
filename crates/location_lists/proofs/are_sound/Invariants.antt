-- `location_lists::are_sound` meets its contract: what is left is sound just where all are. Assumes nothing.
use mathlib.Core.Path.{◌≡◌}
use Rattle.trie.specs.Test.{all_pass}
use Rattle.location_lists.specs.Lists.{held}
use Rattle.location_lists.proofs.Single.{rest}
use Rattle.location_lists.proofs.are_sound.Given as goal

abbrev pub invariant-loop-i : goal.invariant-loop-i
invariant-loop-i l = all_pass l.depth (rest l.s l.list.at l.list.count l.i) ≡ all_pass l.depth (held l.s l.list)
