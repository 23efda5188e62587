-- What a reader may conclude of the memory that finish and load leave. Assumes nothing.
use Rattle.std.specs.Prelude.{ℕ, ◌≡◌, true, List}
use Rattle.definitions.specs.Conflicts.{free}
use Rattle.definitions.specs.Calls.{Capacity}
use Rattle.trie.specs.Trie.{Trie, trie_pieces}
use Rattle.trie.specs.Test.{index_rule}
use Rattle.image_format.specs.Savable.{Savable}
use Rattle.memory_header.specs.Layout.{Room, header_at}
use Rattle.index_memory.specs.Index.{finished, read_index}
use Rattle.finished_memory.specs.Finished.{finished_header, finished_memory}
use Rattle.finished_memory.specs.Room.{Within}

-- it holds the trie, if that meets the index rule
abbrev pub FinishedHolds : Type 0
FinishedHolds = (m : List ℕ) (c : Capacity) (t : Trie) → Room m c → Within c t → Savable t → index_rule t ≡ true → free (trie_pieces t) ≡ true → read_index (finished_memory m c t) ≡ finished c t

-- its tally is the nodes and the entries of the trie
abbrev pub FinishedTally : Type 0
FinishedTally = (m : List ℕ) (c : Capacity) (t : Trie) → Room m c → Within c t → Savable t → header_at (finished_memory m c t) ≡ finished_header c t
