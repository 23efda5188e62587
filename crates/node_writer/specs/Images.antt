-- The image of sorted tails: what is asked, and what is written. Assumes nothing.
use Rattle.std.specs.Prelude.{ℕ, ◌+◌, ◌*◌, ◌≤◌, ◌<◌, ◌≡◌, List, [], ◌∷◌, length, get_or}
use Rattle.words.specs.Holding.{Holds}
use Rattle.trie.specs.Trie.{Trie, empty, root, nodes, entries}
use Rattle.tails.specs.Tails.{Tail}
use Rattle.tails.specs.Groups.{group_node}
use Rattle.image_format.specs.Image.{image}
use Rattle.tails.specs.Runs.{Run}
use Rattle.tails.specs.Weights.{weights}
use Rattle.tail_words.specs.Tail.{tails_in, Held}
use Rattle.tail_groups.specs.Ranks.{Apart}
use Rattle.list_writer.specs.declared.End.{End}

-- the trie of sorted tails: no root where there are none
abbrev pub tails_trie : List Tail → Trie
tails_trie [] = empty
tails_trie (t ∷ ts) = root (group_node 16 0 (t ∷ ts))

pub record ImageAsked (s : List ℕ) (work n : ℕ) : Type 0 where
  pub held : Held s work 0 n
  pub memory : work + 56 * n ≤ length s
  pub run : Run 0 (tails_in s work 0 n)
  pub apart : Apart (tails_in s work 0 n)
  -- 64 bytes for each node, 24 for each entry, repeats kept
  pub room : 64 + 64 * nodes (tails_trie (tails_in s work 0 n)) + 24 * weights 0 (tails_in s work 0 n) ≤ work

-- s' is s with the image of the tails number 0 to n - 1 from byte 64 on, and r is the end behind it
pub record ImageWritten (s s' : List ℕ) (work n : ℕ) (r : End) : Type 0 where
  pub bytes : Holds s' 64 (image (tails_trie (tails_in s work 0 n)))
  pub at : r.at ≡ 64 + length (image (tails_trie (tails_in s work 0 n)))
  pub nodes : r.nodes ≡ nodes (tails_trie (tails_in s work 0 n))
  pub entries : r.entries ≡ entries (tails_trie (tails_in s work 0 n))
  pub within : r.at ≤ work
  pub long : length s' ≡ length s
  pub before : (k : ℕ) → k < 64 → get_or s' k 0 ≡ get_or s k 0
  pub behind : (k : ℕ) → work ≤ k → get_or s' k 0 ≡ get_or s k 0
