-- Document 01: an image is right if its layout is, and then the index rule on the trie that it holds; the rule's cause is 15, and 18
-- where it is broken by a conflict alone. Assumes nothing.
use Rattle.std.specs.Prelude.{ℕ, Bool, cond, List}
use Rattle.definitions.specs.Conflicts.{free}
use Rattle.definitions.specs.Causes.{Cause, number, image_broken, conflict}
use Rattle.trie.specs.Trie.{trie_pieces}
use Rattle.trie.specs.Test.{index_rule}
use Rattle.image_format.specs.Held.{trie_in}
use Rattle.image_format.specs.Reading.{Layout, right, refused, read_image}

-- what is said of a layout, where a condition holds or not
abbrev pub and_if : Bool → Cause → Layout → Layout
and_if holds c (right nodes entries) = cond holds (right nodes entries) (refused (number c))
and_if holds c (refused n) = refused n

unfoldable pub check_image : List ℕ → Layout
check_image s = and_if (free (trie_pieces (trie_in s))) conflict (and_if (index_rule (trie_in s)) image_broken (read_image s))
