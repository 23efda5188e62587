-- Finish as a function on memory: the answer, and the memory afterwards. Assumes nothing.
use Rattle.std.specs.Prelude.{ℕ, List}
use Rattle.definitions.specs.Causes.{first_cause}
use Rattle.definitions.specs.Calls.{finish_checks}
use Rattle.trie.specs.Build.{trie_of}
use Rattle.finished_memory.specs.Finished.{finished_memory}
use Rattle.memory_header.specs.Opening.{Done, unless_refused}
use Rattle.index_memory.specs.Index.{Index, broken, opened, finished, standing_of, read_index}

-- finishing again changes nothing
abbrev pub finished_by : Index → List ℕ → List ℕ
finished_by broken m = m
finished_by (opened c ps) m = finished_memory m c (trie_of ps)
finished_by (finished c t) m = m

abbrev pub finish_by : Index → List ℕ → Done
finish_by i m = unless_refused (first_cause (finish_checks (standing_of i))) m (finished_by i m)

unfoldable pub finish_memory : List ℕ → Done
finish_memory m = finish_by (read_index m) m
