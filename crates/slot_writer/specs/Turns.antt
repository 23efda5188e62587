-- A table's turns: what is asked of each, and what it leaves. Assumes nothing.
use Rattle.std.specs.Prelude.{ℕ, ◌+◌, ◌-◌, ◌*◌, ◌≤◌, ◌<◌, ◌≡◌, Option, Some, None, List, ◌∷◌, length, get_or, set}
use Rattle.std.proofs.lemmas.List.Edits.{sets}
use Rattle.words.specs.Words.{bytes64}
use Rattle.tails.specs.Groups.{Group, groups, Different}
use Rattle.kinds.specs.Kinds.{kind_number, kind_of}
use Rattle.tail_words.specs.Tail.{tails_in, Held}
use Rattle.tail_groups.specs.Found.{no_group, Grouped}
use Rattle.tail_groups.specs.Ranks.{rank_of, with_rank, firsts}
use Rattle.slot_writer.specs.declared.Table.{Table}
use Rattle.slot_writer.specs.declared.Turn.{Turn}
use Rattle.tail_groups.specs.declared.Span.{Span}
use Rattle.tail_groups.specs.declared.Grouping.{Grouping}
use Rattle.list_writer.specs.declared.End.{End}

-- a table of n groups begun at an index
pub record Opened (s s' : List ℕ) (at n : ℕ) (t : Table) : Type 0 where
  pub kind : kind_number t.kind ≡ kind_of n
  pub dense : kind_of n ≡ 1 → (t.base ≡ at) × (t.start ≡ at + 2048) × (t.turns ≡ 256) × (s' ≡ s)
  pub sparse : ¬ (kind_of n ≡ 1) → (t.base ≡ at + 8) × (t.start ≡ at + 8 + n * 9) × (t.turns ≡ n) × (s' ≡ sets s at (bytes64 n))

-- the groups of the tails number lo to hi - 1
abbrev pub groups_in : List ℕ → ℕ → ℕ → ℕ → ℕ → List Group
groups_in s work lo hi d = groups d (tails_in s work lo hi)

abbrev pub group_in : List ℕ → ℕ → ℕ → ℕ → ℕ → ℕ → Group
group_in s work lo hi d g = get_or (groups_in s work lo hi d) g no_group

-- the groups are known, and memory has their tails
pub record Known (s : List ℕ) (work lo hi d n : ℕ) (x : Grouping) : Type 0 where
  pub grouped : Grouped s work lo hi d x n
  pub held : Held s work lo hi
  pub memory : work + 56 * hi ≤ length s
  pub depth : d < 16
  pub different : Different (groups_in s work lo hi d)

-- the entry of group g
pub record EntryAsked (s : List ℕ) (work lo hi d base n : ℕ) (x : Grouping) (g at : ℕ) : Type 0 where
  pub known : Known s work lo hi d n x
  pub group : g < n
  pub table : base + n * 9 ≤ at
  pub flag : at + 1 ≤ length s
  pub from : 64 ≤ at

abbrev pub group_bytes : Group → ℕ → List ℕ
group_bytes g o = g.byte ∷ bytes64 o

pub record GroupEntry (s s' : List ℕ) (work lo hi d base g at : ℕ) : Type 0 where
  pub is : s' ≡ set (sets s (base + rank_of (group_in s work lo hi d g).first (firsts (groups_in s work lo hi d)) * 9) (group_bytes (group_in s work lo hi d g) (at - 64))) at 1

-- turn j of a table of n groups
pub record TurnAsked (s : List ℕ) (work lo hi d : ℕ) (t : Table) (n : ℕ) (x : Grouping) (j met : ℕ) : Type 0 where
  pub known : Known s work lo hi d n x
  pub kind : kind_number t.kind ≡ kind_of n
  pub turn : j < t.turns
  pub dense : kind_of n ≡ 1 → (t.turns ≡ 256) × (t.base + 2048 ≡ t.start)
  pub sparse : ¬ (kind_of n ≡ 1) → (t.turns ≡ n) × (t.base + n * 9 ≡ t.start)

-- the group of a turn of a table with a slot for each byte: the next one, or none where that has another byte
pub record DensePicked (s : List ℕ) (work lo hi d n j met : ℕ) (r : Option ℕ) : Type 0 where
  pub none : r ≡ None → met < n → ¬ ((group_in s work lo hi d met).byte ≡ j)
  pub one : (g : ℕ) → r ≡ Some g → (g ≡ met) × ((group_in s work lo hi d met).byte ≡ j) × (g < n)

-- the group of a turn
pub record Picked (s : List ℕ) (work lo hi d : ℕ) (t : Table) (n j met : ℕ) (r : Option ℕ) : Type 0 where
  pub three : kind_number t.kind ≡ 3 → r ≡ with_rank (firsts (groups_in s work lo hi d)) j
  pub two : kind_number t.kind ≡ 2 → r ≡ Some j
  pub none : r ≡ None → (kind_number t.kind ≡ 1) × (met < n → ¬ ((group_in s work lo hi d met).byte ≡ j))
  pub one : (g : ℕ) → r ≡ Some g → kind_number t.kind ≡ 1 → (g ≡ met) × ((group_in s work lo hi d met).byte ≡ j)
  pub inside : (g : ℕ) → r ≡ Some g → g < n

-- what a turn writes
pub record Turned (s s' : List ℕ) (work lo hi d : ℕ) (t : Table) (n j met : ℕ) (e : End) (r : Turn) : Type 0 where
  pub picked : Picked s work lo hi d t n j met r.group
  pub end : (r.end.at ≡ e.at + 1) × (r.end.nodes ≡ e.nodes) × (r.end.entries ≡ e.entries)
  pub none : r.group ≡ None → s' ≡ set (sets s (t.base + j * 8) (bytes64 (e.at - 64))) e.at 0
  pub dense : (g : ℕ) → r.group ≡ Some g → kind_number t.kind ≡ 1 → s' ≡ set (sets s (t.base + j * 8) (bytes64 (e.at - 64))) e.at 1
  pub sparse : (g : ℕ) → r.group ≡ Some g → ¬ (kind_number t.kind ≡ 1) → GroupEntry s s' work lo hi d t.base g e.at

-- the tails of group g
abbrev pub child_in : Grouping → Span → ℕ → Span
child_in x s g = record { work = s.work; lo = get_or x.starts g 0; hi = get_or x.starts (g + 1) 0; depth = s.depth + 1 }
