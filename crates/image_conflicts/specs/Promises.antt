-- What a reader may conclude of an image that meets the index rule. Assumes nothing.
use Rattle.std.specs.Prelude.{ℕ, ◌<◌, ◌≡◌, true, ◌↔◌, List, [], length}
use Rattle.definitions.specs.Location.{Location}
use Rattle.definitions.specs.Blocks.{Piece}
use Rattle.definitions.specs.Conflicts.{free}
use Rattle.conflicts.specs.Order.{loc}
use Rattle.conflicts.specs.Promises.{Locations, ClearImage}
use Rattle.trie.specs.Trie.{Node, root, forest_pieces, trie_pieces}
use Rattle.trie.specs.Rule.{NodeRule}
use Rattle.image_conflicts.specs.Due.{conflict_free}

-- the pieces that have a byte: the chunks below the root
abbrev pub filled_pieces : Node → List Piece
filled_pieces n = forest_pieces [] n.children

-- the root's suffixes are the locations of the pieces that have a byte
abbrev pub RootSuffixes : Type 0
RootSuffixes = (n : Node) → NodeRule n → Locations (filled_pieces n) n.lists.suffixes

-- an image is free of conflicts exactly if its chunks are clear against the root's suffixes
abbrev pub ImageFree : Type 0
ImageFree = (n : Node) → NodeRule n → (free (trie_pieces (root n)) ≡ true) ↔ ClearImage (filled_pieces n) n.lists.suffixes

-- the test that is computed, on any numbering of the root's suffixes, tells whether it is
abbrev pub ConflictFreeIs : Type 0
ConflictFreeIs =
    (n : Node) → NodeRule n → (at : ℕ → Location) → ((i : ℕ) → i < length n.lists.suffixes → at i ≡ loc n.lists.suffixes i)
    → conflict_free at (length n.lists.suffixes) n.children ≡ free (trie_pieces (root n))
