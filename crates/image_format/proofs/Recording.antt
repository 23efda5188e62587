-- Document 01, recording 13, and what is read at the edges of the layout, by computation. Assumes nothing.
use Prim.Native.Nat.{suc, zero, ℕ}
use mathlib.Core.List.{List, [], ◌++◌, ◌∷◌}
use mathlib.Core.Path.{◌≡◌, refl}
use lib.ListN.{length, replicate, set, take}
use Rattle.definitions.specs.Location.{locations_bytes}
use Rattle.words.specs.Words.{bytes64, le64}
use Rattle.definitions.specs.Blocks.{bytes_at}
use Rattle.trie.specs.Build.{trie_of}
use Rattle.trie.specs.Trie.{Forest, leaf, more, no_lists, root}
use Rattle.image_format.specs.Image.{as_child, children_bytes, children_of, children_size, image, list_bytes, lists_bytes, lists_size, node_bytes, node_size, table_by_arrival, table_bytes, table_size}
use Rattle.kinds.specs.Kinds.{fits, kind_of}
use Rattle.image_format.specs.Reading.{Layout, all_met, find_byte, open_table, read_child, read_counts, read_head, read_image, read_list, read_lists, read_node, read_root, read_table, read_turns, refused, right, slot_at, table_fault, turn_at}

-- one block 61 at 5, 1-2: an image of 124 bytes, with the offset 66 in its table
pub recording_13 : (length (image (trie_of (bytes_at (0x61 ∷ []) 5 1 2 ∷ []))) ≡ 124) × (le64 (image (trie_of (bytes_at (0x61 ∷ []) 5 1 2 ∷ []))) 58 ≡ 66)
unfolding image children_of as_child node_bytes node_size table_bytes table_size children_bytes children_size table_by_arrival lists_bytes lists_size list_bytes locations_bytes kind_of bytes64 le64
recording_13 = (refl, refl)

-- its image
unfoldable pub one_block : List ℕ
one_block = image (trie_of (bytes_at (0x61 ∷ []) 5 1 2 ∷ []))

-- the image of a path of n bytes
unfoldable pub path_below : ℕ → Forest
path_below zero = leaf
path_below (suc n) = more n no_lists (path_below n) leaf

unfoldable pub path : ℕ → List ℕ
path n = image (root (record { lists = no_lists; children = path_below n }))

-- a node of kind 3 up to its table
abbrev start : List ℕ
start = 3 ∷ replicate 24 0

pub record Case : Type 0 where
  pub bytes : List ℕ
  pub answer : Layout

unfoldable pub cases : List Case
cases =
    record { bytes = one_block; answer = right 2 2 } ∷
    -- cut short, and left over
    record { bytes = []; answer = refused 13 } ∷
    record { bytes = take 123 one_block; answer = refused 13 } ∷
    record { bytes = one_block ++ (0 ∷ []); answer = refused 15 } ∷
    -- the empty index
    record { bytes = replicate 25 0; answer = right 1 0 } ∷
    record { bytes = replicate 24 0; answer = refused 13 } ∷
    record { bytes = set (replicate 25 0) 9 1; answer = refused 15 } ∷
    record { bytes = take 17 (set (replicate 25 0) 9 1); answer = refused 15 } ∷
    record { bytes = replicate 26 0; answer = refused 15 } ∷
    -- a kind 0 elsewhere is unknown, as is 4
    record { bytes = set one_block 67 0; answer = refused 14 } ∷
    record { bytes = 4 ∷ []; answer = refused 14 } ∷
    -- an offset is judged just before its flag is read
    record { bytes = set one_block 58 67; answer = refused 15 } ∷
    record { bytes = take 66 (set one_block 58 67); answer = refused 15 } ∷
    record { bytes = take 66 one_block; answer = refused 13 } ∷
    record { bytes = set one_block 66 0; answer = refused 15 } ∷
    -- a sibling's byte again, its offset cut off; a count over the kind's
    record { bytes = start ++ (2 ∷ replicate 7 0) ++ (0x61 ∷ replicate 8 0) ++ (0x61 ∷ []); answer = refused 15 } ∷
    record { bytes = start ++ (2 ∷ replicate 7 0) ++ (0x61 ∷ replicate 8 0) ++ (0x62 ∷ []); answer = refused 13 } ∷
    record { bytes = start ++ (9 ∷ replicate 7 0); answer = refused 15 } ∷
    record { bytes = set start 0 2 ++ (8 ∷ replicate 7 0); answer = refused 15 } ∷
    -- a list count beyond the image, times 24 beyond 2^64
    record { bytes = 3 ∷ (replicate 8 255 ++ replicate 24 0); answer = refused 13 } ∷
    -- the deepest path, and a flag 1 in its last node, whatever is behind it
    record { bytes = path 16; answer = right 17 0 } ∷
    record { bytes = path 17; answer = refused 15 } ∷
    record { bytes = take 731 (path 17); answer = refused 15 } ∷
    record { bytes = take 730 (path 17); answer = refused 13 } ∷ []

abbrev pub Right : List Case → Type 0
Right [] = Unit {0}
Right (c ∷ cs) = (read_image c.bytes ≡ c.answer) × Right cs

pub cases_right : Right cases
unfolding cases one_block path path_below image children_of as_child node_bytes node_size table_bytes table_size children_bytes children_size table_by_arrival lists_bytes lists_size list_bytes locations_bytes kind_of bytes64 le64 fits read_list read_lists read_head find_byte table_fault open_table slot_at turn_at read_child all_met read_turns read_table read_node read_counts read_root read_image
cases_right = (refl, (refl, (refl, (refl, (refl, (refl, (refl, (refl, (refl, (refl, (refl, (refl, (refl, (refl, (refl, (refl, (refl, (refl, (refl, (refl, (refl, (refl, (refl, (refl, tt))))))))))))))))))))))))
