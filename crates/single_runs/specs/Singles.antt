-- Runs of nodes that have one child, one suffix and no front. Assumes nothing.
use Rattle.std.specs.Prelude.{ℕ, ◌+◌, ◌-◌, ◌≤◌, ◌≡◌, List, [], ◌∷◌, length}
use Rattle.definitions.specs.Location.{location_at}
use Rattle.trie.specs.Trie.{Lists, Forest, leaf, more}
use Rattle.image_walk.specs.Parts.{parts_at}
use Rattle.node_rule.specs.Parts.{TableOf}
use Rattle.single_runs.specs.Runs.{BareSingle}
use Rattle.single_runs.specs.Says.{children_right}

-- the node at an index has one child, one suffix, and neither prefix nor chunk
pub record SingleWithSuffix (s : List ℕ) (at : ℕ) : Type 0 where
  pub bare : BareSingle (parts_at s at) (at + 57)
  pub one : (parts_at s at).suffixes.count ≡ 1
  pub place : (parts_at s at).suffixes.at ≡ at + 25
  pub room : at + 57 ≤ length s

-- g is one such sibling, at index table + 10; its table stands at table + 67
pub record SingleTo (s : List ℕ) (d table : ℕ) (g : Forest) : Type 0 where
  pub byte : ℕ
  pub lists : Lists
  pub below : Forest
  pub is : g ≡ more byte lists below leaf
  pub prefixes : [] ≡ lists.prefixes
  pub chunks : [] ≡ lists.chunks
  pub suffixes : location_at s (table + 35) ∷ [] ≡ lists.suffixes
  pub leads : TableOf s (d - 1) (table + 67) 1 below

-- a table of one entry leads to such a sibling
pub record SingleIn (s : List ℕ) (table : ℕ) : Type 0 where
  pub room : table + 67 ≤ length s
  pub is : (d : ℕ) (g : Forest) → TableOf s d table 1 g → SingleTo s d table g

-- such siblings with the same suffix, one below the other, by their tables
pub record SingleBelow (s : List ℕ) (table next : ℕ) : Type 0 where
  pub place : table + 67 ≡ next
  pub there : SingleIn s next
  pub same : location_at s (table + 35) ≡ location_at s (next + 35)

-- k levels below g, which has no front
pub record SinglesAt (s : List ℕ) (depth d children k t : ℕ) (g : Forest) : Type 0 where
  pub below : Forest
  pub leads : TableOf s (d - k) t children below
  pub same : children_right (depth + k) [] below ≡ children_right depth [] g

pub record SinglesTo (s : List ℕ) (table most k t : ℕ) : Type 0 where
  pub few : k ≤ most
  pub is : (depth d : ℕ) (g : Forest) → TableOf s d table 1 g → SinglesAt s depth d 1 k t g
