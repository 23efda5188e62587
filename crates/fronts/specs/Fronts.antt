-- The fronts of a node on a stack. Assumes nothing.
use Rattle.std.specs.Prelude.{ℕ, ◌+◌, ◌≤◌, ◌<◌, ◌≡◌, List, [], ◌∷◌, length, get_or}
use Rattle.trie.specs.Trie.{Node}
use Rattle.node_rule.specs.Parts.{TableOf}
use Rattle.fronts.specs.declared.Front.{Front}
use Rattle.fronts.specs.Masks.{SaysMask}

-- the front at an index
abbrev pub front_at : List Front → ℕ → Front
front_at fronts p = get_or fronts p (record { table = record { at = 0; count = 0 }; mask = 0 })

-- it has the table of a node, which has at most d levels below it, and a mask of that
pub record FrontIs (s : List ℕ) (d : ℕ) (x : Front) (f : Node) : Type 0 where
  pub table : TableOf s d x.table.at x.table.count f.children
  pub mask : SaysMask s x.table.at x.table.count x.mask

-- those from index p on are these nodes'
abbrev pub FrontsFrom : List ℕ → ℕ → List Front → ℕ → List Node → Type 0
FrontsFrom s d fronts p [] = Unit {0}
FrontsFrom s d fronts p (f ∷ fs) = FrontIs s d (front_at fronts p) f × FrontsFrom s d fronts (p + 1) fs

-- so many from an index on are the fronts fs, each with at most d levels below it
pub record FrontsHere (s : List ℕ) (d : ℕ) (fronts : List Front) (from count : ℕ) (fs : List Node) : Type 0 where
  pub many : length fs ≡ count
  pub few : count ≤ 256
  pub each : FrontsFrom s d fronts from fs

-- some fronts
pub record HasFronts (s : List ℕ) (fronts : List Front) (from count : ℕ) : Type 0 where
  pub depth : ℕ
  pub nodes : List Node
  pub is : FrontsHere s depth fronts from count nodes

-- up to index m ys is xs
pub record KeptBelow (m : ℕ) (xs ys : List Front) : Type 0 where
  pub first : (k : ℕ) → k < m → front_at ys k ≡ front_at xs k
  pub same_length : length ys ≡ length xs
