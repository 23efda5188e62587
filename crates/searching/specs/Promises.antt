-- What a reader may conclude of the search: what it finds by the nodes of a sound index is what document 01 says of its pieces.
-- Assumes nothing.
use Rattle.std.specs.Prelude.{ℕ, ◌+◌, ◌-◌, ◌*◌, ◌/◌, ◌≤◌, ◌<◌, ◌≡◌, ◌↔◌, length, get_or}
use mathlib.Core.List.{List, Memᴰ}
use Rattle.definitions.specs.Location.{Location, Less, Sorted, locations_in}
use Rattle.definitions.specs.Places.{T, first_of, sizes, places_counted}
use Rattle.definitions.specs.Rows.{combine_split_times, rows}
use Rattle.definitions.specs.Causes.{number, scratch_too_small}
use Rattle.trie.specs.Trie.{Node, Trie, root, trie_pieces}
use Rattle.trie.specs.Rule.{NodeRule, Rule}
use Rattle.trie.specs.Find.{table_found}
use Rattle.node_joining.specs.Layout.{LaidOut}
use Rattle.searching.specs.Search.{search_answer}

-- its rows are those of the definitions
abbrev pub RowsFoundAre : Type 0
RowsFoundAre = (t : Trie) → Rule t → (q : List ℕ) → combine_split_times (first_of (table_found t q)) ≡ rows (trie_pieces t) q

-- and so is the count behind refusal 10
abbrev pub PlacesFoundCounted : Type 0
PlacesFoundCounted = (t : Trie) → Rule t → (q : List ℕ) → sizes (table_found t q) ≡ places_counted (trie_pieces t) q

-- which comes exactly where scratch has room for fewer places
abbrev pub ScratchFoundExact : Type 0
ScratchFoundExact = (t : Trie) → Rule t → (q : List ℕ) (scratch room : ℕ) → ((search_answer t q scratch room).refusal ≡ number scratch_too_small) ↔ (scratch / 24 < places_counted (trie_pieces t) q)

-- ── where T(j) was collected ──

-- what stands in scratch from place number ends[j + 1] to ends[j] - 1
abbrev pub laid_at : (ends s : List ℕ) (j : ℕ) → List Location
laid_at ends s j = locations_in s (get_or ends j 0 - get_or ends (j + 1) 0) (get_or ends (j + 1) 0 * 24)

-- it ascends, each place once; of a sound index it is T(j)
pub record StandsAs (n : Node) (q ends s : List ℕ) (j : ℕ) : Type 0 where
  pub sorted : Sorted Less (laid_at ends s j)
  pub is_t : NodeRule n → (x : Location) → Memᴰ x (laid_at ends s j) ↔ T (trie_pieces (root n)) q j x

-- so stands each T(j) that was laid out; that of the last byte is only counted unless it is the query
abbrev pub StandsSorted : Type 0
StandsSorted = (n : Node) (q : List ℕ) (i : ℕ) (ends s : List ℕ) → LaidOut n q i ends s → (j : ℕ) → i ≤ j → j < length q → (0 < j → j + 1 < length q) → StandsAs n q ends s j
