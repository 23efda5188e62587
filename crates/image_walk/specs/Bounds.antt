-- What the code asks of a node in place: its parts lie within the image. Assumes nothing.
use Rattle.std.specs.Prelude.{ℕ, ◌+◌, ◌*◌, ◌≤◌, ◌<◌, ◌≡◌, List, length, get_or}
use Rattle.words.specs.Words.{le64}
use Rattle.image_walk.specs.Parts.{prefix_list, chunk_list, suffix_list, behind_lists, table_at, children_at}

-- the entries of a table lie within the image, and so do the flags that they lead to
pub record TableHere (s : List ℕ) (table children : ℕ) : Type 0 where
  -- kind 1: 256 offsets, each of a flag 0 or 1
  pub offsets : children ≡ 256 → table + 2048 ≤ length s
  pub flags : children ≡ 256 → (j : ℕ) → j < 256 → le64 s (table + j * 8) < length s
  pub empty_or_taken : children ≡ 256 → (j : ℕ) → j < 256 → get_or s (le64 s (table + j * 8)) 0 ≤ 1
  -- kinds 2 and 3: entries of 9 bytes
  pub entries : (children ≡ 256 → ⊥) → table + children * 9 ≤ length s
  pub nodes : (children ≡ 256 → ⊥) → (j : ℕ) → j < children → le64 s (table + j * 9 + 1) < length s

-- the lists and the table lie within the image; a table with a count has at most 96 entries
pub record Bounds (s : List ℕ) (at : ℕ) : Type 0 where
  pub kind : at < length s
  pub prefixes : prefix_list at + 8 + 24 * le64 s (prefix_list at) ≤ length s
  pub chunks : chunk_list s at + 8 + 24 * le64 s (chunk_list s at) ≤ length s
  pub suffixes : suffix_list s at + 8 + 24 * le64 s (suffix_list s at) ≤ length s
  pub count : behind_lists s at + 8 ≤ length s
  pub few : (get_or s at 0 ≡ 1 → ⊥) → le64 s (behind_lists s at) ≤ 96
  pub table : TableHere s (table_at s at) (children_at s at)
