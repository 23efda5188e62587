-- The node at an index of an image: where its three lists and its table stand, and how many they hold. Assumes nothing.
use Rattle.std.specs.Prelude.{ℕ, ◌+◌, cond, List, get_or, eqb}
use Rattle.words.specs.Words.{le64}
use Rattle.image_format.specs.Held.{list_end}
use Rattle.location_lists.specs.declared.List.{List as Listing}
use Rattle.image_walk.specs.declared.Node.{Node}

-- the count of `prefixes`; the first location of a list is 8 bytes behind its count
abbrev pub prefix_list : ℕ → ℕ
prefix_list at = at + 1

-- the count of `chunks`
unfoldable pub chunk_list : List ℕ → ℕ → ℕ
chunk_list s at = list_end s (prefix_list at)

-- the count of `suffixes`
unfoldable pub suffix_list : List ℕ → ℕ → ℕ
suffix_list s at = list_end s (chunk_list s at)

-- what stands behind the lists: in kind 1 the table, in kinds 2 and 3 the count of its entries
unfoldable pub behind_lists : List ℕ → ℕ → ℕ
behind_lists s at = list_end s (suffix_list s at)

-- the table
unfoldable pub table_at : List ℕ → ℕ → ℕ
table_at s at = cond (eqb (get_or s at 0) 1) (behind_lists s at) (behind_lists s at + 8)

-- how many entries the table has: 256 in kind 1, some of them empty
unfoldable pub children_at : List ℕ → ℕ → ℕ
children_at s at = cond (eqb (get_or s at 0) 1) 256 (le64 s (behind_lists s at))

-- a list behind its count
abbrev pub list_in : List ℕ → ℕ → Listing
list_in s at = record { at = at + 8; count = le64 s at }

-- all of them
abbrev pub parts_at : List ℕ → ℕ → Node
parts_at s at = record {
  prefixes = list_in s (prefix_list at);
  chunks = list_in s (chunk_list s at);
  suffixes = list_in s (suffix_list s at);
  table = record { at = table_at s at; count = children_at s at };
}
