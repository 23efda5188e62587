-- A node up to its table: its kind and its lists. Assumes nothing.
use Rattle.std.specs.Prelude.{ℕ, suc, ◌+◌, ◌*◌, ◌≤◌, ◌<◌, ◌≡◌, true, false, List, ◌∷◌, length, get_or}
use Rattle.words.specs.Holding.{Holds}
use Rattle.definitions.specs.Location.{normal}
use Rattle.trie.specs.Trie.{Lists, entries_of}
use Rattle.tails.specs.Groups.{ends_as, run, locations_of, wholes, below, group_lists, groups}
use Rattle.kinds.specs.Kinds.{kind_of}
use Rattle.image_format.specs.Image.{lists_bytes, lists_size}
use Rattle.tails.specs.Runs.{Run}
use Rattle.tails.specs.Weights.{weights, group_weights}
use Rattle.tail_words.specs.Tail.{tails_in, Held}
use Rattle.tail_groups.specs.Found.{Grouped}
use Rattle.tail_groups.specs.declared.Grouping.{Grouping}
use Rattle.list_writer.specs.declared.End.{End}
use Rattle.single_writer.specs.declared.Head.{Head}

-- how many locations are copied for the lists of tails that are cut at two places
abbrev pub copies : List ℕ → ℕ → ℕ → ℕ → ℕ → ℕ → ℕ
copies s work lo parts below hi = length (tails_in s work lo parts) + length (tails_in s work parts below) + length (wholes (tails_in s work below hi))

abbrev pub cut_lists : List ℕ → ℕ → ℕ → ℕ → ℕ → ℕ → Lists
cut_lists s work lo parts below hi = record {
  prefixes = normal (locations_of (tails_in s work lo parts));
  chunks = normal (locations_of (tails_in s work parts below));
  suffixes = normal (locations_of (wholes (tails_in s work below hi)));
}

pub record ListsAsked (s : List ℕ) (work lo parts below hi : ℕ) (e : End) : Type 0 where
  pub first : lo ≤ parts
  pub second : parts ≤ below
  pub third : below ≤ hi
  pub memory : work + 56 * hi ≤ length s
  pub room : e.at + 24 + 24 * copies s work lo parts below hi ≤ work
  pub counted : e.entries ≤ e.at

pub record ListsWritten (s s' : List ℕ) (work lo parts below hi : ℕ) (e r : End) : Type 0 where
  pub bytes : Holds s' e.at (lists_bytes (cut_lists s work lo parts below hi))
  pub at : r.at ≡ e.at + lists_size (cut_lists s work lo parts below hi)
  pub few : entries_of (cut_lists s work lo parts below hi) ≤ copies s work lo parts below hi
  pub nodes : r.nodes ≡ e.nodes
  pub entries : r.entries ≡ e.entries + entries_of (cut_lists s work lo parts below hi)
  pub long : length s' ≡ length s
  pub before : (k : ℕ) → k < e.at → get_or s' k 0 ≡ get_or s k 0
  pub behind : (k : ℕ) → work ≤ k → get_or s' k 0 ≡ get_or s k 0

-- ── the head ──

pub record HeadAsked (s : List ℕ) (work lo hi d : ℕ) (e : End) : Type 0 where
  pub order : lo ≤ hi
  pub held : Held s work lo hi
  pub memory : work + 56 * hi ≤ length s
  pub run : Run d (tails_in s work lo hi)
  pub depth : d ≤ 16
  pub room : e.at + 64 + 24 * weights d (tails_in s work lo hi) ≤ work
  pub counted_nodes : e.nodes ≤ e.at
  pub counted : e.entries ≤ e.at

-- the same, and where its tails end: inside their pieces up to parts, with them up to mid
pub record FrontAsked (s : List ℕ) (work lo hi d parts mid n : ℕ) (e : End) : Type 0 where
  pub asked : HeadAsked s work lo hi d e
  pub first : parts ≡ lo + length (run (ends_as d false) (tails_in s work lo hi))
  pub second : mid ≡ parts + length (run (ends_as d true) (tails_in s work parts hi))
  pub few : n ≤ 256

-- the kind for n children and the lists of the node of the tails number lo to hi - 1 behind the end e, and r is the end behind them
pub record Front (s s' : List ℕ) (work lo hi d n : ℕ) (e r : End) : Type 0 where
  pub bytes : Holds s' e.at (kind_of n ∷ lists_bytes (group_lists d (tails_in s work lo hi)))
  pub at : r.at ≡ e.at + 1 + lists_size (group_lists d (tails_in s work lo hi))
  pub few : entries_of (group_lists d (tails_in s work lo hi)) + group_weights (suc d) (groups d (below d (tails_in s work lo hi))) ≤ weights d (tails_in s work lo hi)
  pub nodes : r.nodes ≡ e.nodes + 1
  pub entries : r.entries ≡ e.entries + entries_of (group_lists d (tails_in s work lo hi))
  pub long : length s' ≡ length s
  pub before : (k : ℕ) → k < e.at → get_or s' k 0 ≡ get_or s k 0
  pub behind : (k : ℕ) → work ≤ k → get_or s' k 0 ≡ get_or s k 0

-- the kind and the lists of the node of the tails number lo to hi - 1, and the groups of those that go on
pub record HeadWritten (s s' : List ℕ) (work lo hi d : ℕ) (e : End) (x : Grouping) (r : Head) : Type 0 where
  pub from : lo ≤ r.below
  pub upto : r.below ≤ hi
  pub rest : tails_in s work r.below hi ≡ below d (tails_in s work lo hi)
  pub front : Front s s' work lo hi d x.count e r.end
  pub grouped : Grouped s' work r.below hi d x x.count
