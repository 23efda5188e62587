-- What a reader may conclude of the test of an image. Assumes nothing.
use Rattle.std.specs.Prelude.{ℕ, ◌^◌, ◌<◌, ◌≡◌, true, false, ◌↔◌, List, length}
use Rattle.definitions.specs.Conflicts.{free}
use Rattle.definitions.specs.Causes.{number, conflict}
use Rattle.trie.specs.Trie.{Trie, trie_pieces}
use Rattle.trie.specs.Rule.{Rule}
use Rattle.trie.specs.Test.{index_rule}
use Rattle.image_format.specs.Held.{trie_in}
use Rattle.image_format.specs.Reading.{right, refused, read_image}
use Rattle.image_format.specs.Savable.{AllBytes, Shaped}
use Rattle.image_format.specs.Check.{check_image}

-- the test that is computed is the index rule in the document's words
abbrev pub IndexRuleIs : Type 0
IndexRuleIs = (t : Trie) → Shaped t → (index_rule t ≡ true) ↔ Rule t

-- an image is accepted exactly if it has the layout, the index rule holds and no two pieces conflict
abbrev pub CheckImageIs : Type 0
CheckImageIs = (s : List ℕ) → AllBytes s → length s < 2 ^ 64 → (k e : ℕ) → (check_image s ≡ right k e) ↔ ((read_image s ≡ right k e) × Rule (trie_in s) × (free (trie_pieces (trie_in s)) ≡ true))

-- 18 is left for one that is right but for conflicts: the layout and the rest of the rule come first
abbrev pub CheckImageConflict : Type 0
CheckImageConflict = (s : List ℕ) → AllBytes s → length s < 2 ^ 64 → (k e : ℕ) → read_image s ≡ right k e → Rule (trie_in s) → free (trie_pieces (trie_in s)) ≡ false → check_image s ≡ refused (number conflict)
