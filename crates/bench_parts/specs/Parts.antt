-- What the numbers of timed parts mean. Assumes nothing.
use Rattle.std.specs.Prelude.{ℕ, ◌-◌, ◌≡◌, ◌||◌, cond, List, length, drop, set, ltb, eqb}
use Rattle.definitions.specs.Causes.{number, query_too_long, image_broken, ScratchAfter}
use Rattle.definitions.specs.Calls.{query_limit}
use Rattle.trie.specs.Trie.{Trie}
use Rattle.trie.specs.Test.{index_rule}
use Rattle.image_format.specs.Held.{trie_in}
use Rattle.image_format.specs.Reading.{Layout, right, refused, read_image}
use Rattle.image_format.specs.Check.{and_if, check_image}
use Rattle.row_buffer.specs.Answer as S
use Rattle.searching.specs.Search.{search_answer}

-- what is said of an image before conflicts are looked for
abbrev pub but_conflicts : List ℕ → Layout
but_conflicts s = and_if (index_rule (trie_in s)) image_broken (read_image s)

-- how many bytes each query has; all are one query where they can't have so many
abbrev pub query_size : List ℕ → ℕ → ℕ
query_size qs size = cond (eqb size 0 || ltb (length qs) size) (length qs) size

-- the last of queries of so many bytes
abbrev pub last_query : List ℕ → ℕ → List ℕ
last_query qs size = drop (length qs - size) qs

abbrev pub last_of : List ℕ → ℕ → List ℕ
last_of qs size = last_query qs (query_size qs size)

-- what the search of an index finds: a query that is too long is refused first
abbrev pub query_search : Trie → List ℕ → ℕ → ℕ → S.RowsFound
query_search t q scratch room = cond (ltb query_limit (length q)) (S.refused (number query_too_long)) (search_answer t q scratch room)

-- the image's own refusal comes before that
abbrev pub found_in : Layout → List ℕ → List ℕ → ℕ → ℕ → S.RowsFound
found_in (refused n) img q scratch room = S.refused n
found_in (right nodes entries) img q scratch room = query_search (trie_in img) q scratch room

abbrev pub image_search : List ℕ → List ℕ → ℕ → ℕ → S.RowsFound
image_search img q scratch room = found_in (check_image img) img q scratch room

-- how many rows there are is written where the search is not refused
abbrev pub counted : S.RowsFound → List ℕ → List ℕ
counted o count = cond (eqb o.refusal 0) (set count 0 (length o.rows)) count

-- an image that is refused leaves it
abbrev pub counted_in : Layout → S.RowsFound → List ℕ → List ℕ
counted_in (refused n) o count = count
counted_in (right nodes entries) o count = counted o count

-- and so it leaves scratch
abbrev pub ScratchIn : Layout → S.RowsFound → List ℕ → List ℕ → Type 0
ScratchIn (refused n) o before after = after ≡ before
ScratchIn (right nodes entries) o before after = ScratchAfter o.refusal before after

abbrev pub image_counted : List ℕ → List ℕ → ℕ → ℕ → List ℕ → List ℕ
image_counted img q scratch room count = counted_in (check_image img) (image_search img q scratch room) count
