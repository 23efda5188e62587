-- Small tries by computation: recording 13 (one block 61 at 5, 1-2), and what the index rule turns back. Assumes nothing.
use Rattle.std.specs.Prelude.{◌≡◌, refl, true, false, List, [], ◌∷◌}
use Rattle.definitions.specs.Location.{Location, location}
use Rattle.definitions.specs.Blocks.{bytes_at}
use Rattle.trie.specs.Trie.{Lists, leaf, more, Trie, root, collect}
use Rattle.trie.specs.Build.{trie_of}
use Rattle.trie.specs.Test.{index_rule}

one_block : trie_of (bytes_at (0x61 ∷ []) 5 1 2 ∷ []) ≡ root (record { lists = record { prefixes = []; chunks = []; suffixes = location 5 1 2 ∷ [] }; children = more 0x61 (record { prefixes = []; chunks = location 5 1 2 ∷ []; suffixes = [] }) leaf leaf })
one_block = refl

-- two bytes: the second in `prefixes`, one address further on; it arrives first
two_bytes : trie_of (bytes_at (0x62 ∷ 0x61 ∷ []) 5 1 2 ∷ []) ≡ root (record {
  lists = record { prefixes = []; chunks = []; suffixes = location 5 1 2 ∷ [] };
  children =
      more 0x61 (record { prefixes = location 6 1 2 ∷ []; chunks = []; suffixes = [] }) leaf
      (more 0x62 (record { prefixes = []; chunks = []; suffixes = location 5 1 2 ∷ [] }) (more 0x61 (record { prefixes = []; chunks = location 5 1 2 ∷ []; suffixes = [] }) leaf leaf) leaf);
})
two_bytes = refl

abbrev with_lists : List Location → List Location → List Location → Lists
with_lists ps cs ss = record { prefixes = ps; chunks = cs; suffixes = ss }

-- a node 61 with these lists under a root with these suffixes
abbrev under_root : List Location → Lists → Trie
under_root ss h = root (record { lists = with_lists [] [] ss; children = more 0x61 h leaf leaf })

right : index_rule (under_root (location 5 1 2 ∷ []) (with_lists [] (location 5 1 2 ∷ []) [])) ≡ true
right = refl

suffix_missing : index_rule (under_root [] (with_lists [] (location 5 1 2 ∷ []) [])) ≡ false
suffix_missing = refl

suffix_too_many : index_rule (under_root (location 5 1 2 ∷ location 6 1 2 ∷ []) (with_lists [] (location 5 1 2 ∷ []) [])) ≡ false
suffix_too_many = refl

prefix_too_many : index_rule (under_root (location 5 1 2 ∷ []) (with_lists (location 6 1 2 ∷ []) (location 5 1 2 ∷ []) [])) ≡ false
prefix_too_many = refl

node_not_owed : index_rule (under_root [] (with_lists [] [] [])) ≡ false
node_not_owed = refl

no_life : index_rule (under_root (location 5 2 2 ∷ []) (with_lists [] (location 5 2 2 ∷ []) [])) ≡ false
no_life = refl

repeated : index_rule (under_root (location 5 1 2 ∷ location 5 1 2 ∷ []) (with_lists [] (location 5 1 2 ∷ location 5 1 2 ∷ []) [])) ≡ false
repeated = refl

-- prefixes and chunks of a node and all under it
collected : collect (record { lists = with_lists (location 1 1 2 ∷ []) (location 2 1 2 ∷ []) (location 3 1 2 ∷ []); children = more 0x61 (with_lists (location 4 1 2 ∷ []) (location 5 1 2 ∷ []) (location 6 1 2 ∷ [])) leaf leaf }) ≡ location 1 1 2 ∷ location 2 1 2 ∷ location 4 1 2 ∷ location 5 1 2 ∷ []
collected = refl
