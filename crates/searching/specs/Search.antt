-- The answer of a search: the number of a refusal, or the rows of the query. Assumes nothing.
use Rattle.std.specs.Prelude.{ℕ, ◌/◌, cond, List, ltb}
use Rattle.definitions.specs.Places.{first_of, sizes}
use Rattle.definitions.specs.Rows.{combine_split_times}
use Rattle.definitions.specs.Causes.{number, scratch_too_small}
use Rattle.trie.specs.Trie.{Trie}
use Rattle.trie.specs.Find.{table_found}
use Rattle.row_buffer.specs.Answer.{RowsFound, refused, rows_answer}

-- the sizes of all T(i) together exceed scratch: refused before more rows than have room are
unfoldable pub search_answer : Trie → List ℕ → ℕ → ℕ → RowsFound
search_answer t q scratch room =
    let ts = table_found t q in
    cond (ltb (scratch / 24) (sizes ts)) (refused (number scratch_too_small)) (rows_answer (combine_split_times (first_of ts)) room)
