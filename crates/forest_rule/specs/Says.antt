-- What the functions of the rule ask of each other and say, of whatever node and fronts stand there. Assumes nothing.
use Rattle.std.specs.Prelude.{ℕ, ◌+◌, ◌*◌, ◌-◌, ◌≤◌, ◌≡◌, Bool, List}
use Rattle.trie.specs.Trie.{Forest, Node}
use Rattle.image_walk.specs.Here.{NodeHere}
use Rattle.node_rule.specs.Parts.{TableOf}
use Rattle.fronts.specs.Fronts.{FrontsHere, KeptBelow}
use Rattle.fronts.specs.declared.Front.{Front}
use Rattle.fronts.specs.declared.Place.{Place}
use Rattle.single_runs.specs.Says.{child_right, children_right}
use Rattle.forest_rule.specs.declared.Siblings.{Siblings}
use Rattle.forest_rule.specs.declared.RunEnd.{RunEnd}
use Rattle.forest_rule.specs.declared.RunEnd.TheVariants.{Said, GoesOn}

-- a child and its parent's fronts, where left levels are left below the child
pub record ChildAsked (s : List ℕ) (p : Place) (fronts : List Front) (count : ℕ) (left : ℕ) : Type 0 where
  pub node : Node
  pub here : NodeHere s left p.at node
  pub nodes : List Node
  pub fronts_here : FrontsHere s left fronts (p.depth * 256) count nodes
  pub levels : p.depth + left ≤ 15

pub record ChildSays (s : List ℕ) (p : Place) (old : List Front) (count left : ℕ) (fronts : List Front) (r : Bool) : Type 0 where
  pub kept : KeptBelow ((p.depth + 1) * 256) old fronts
  pub says : (n : Node) (fs : List Node) → NodeHere s left p.at n → FrontsHere s left old (p.depth * 256) count fs → r ≡ child_right p.byte (p.depth + 1) fs n

-- siblings and their parent's fronts
pub record ChildrenAsked (s : List ℕ) (b : Siblings) (fronts : List Front) (count : ℕ) : Type 0 where
  pub forest : Forest
  pub is : TableOf s b.left b.table.at b.table.count forest
  pub nodes : List Node
  pub fronts_here : FrontsHere s (b.left - 1) fronts (b.depth * 256) count nodes
  pub levels : b.depth + b.left ≤ 16

pub record ChildrenSays (s : List ℕ) (b : Siblings) (old : List Front) (count : ℕ) (fronts : List Front) (r : Bool) : Type 0 where
  pub kept : KeptBelow ((b.depth + 1) * 256) old fronts
  pub says : (g : Forest) (fs : List Node) → TableOf s b.left b.table.at b.table.count g → FrontsHere s (b.left - 1) old (b.depth * 256) count fs → r ≡ children_right b.depth fs g

-- the siblings in a table k levels below others
abbrev pub deeper : Siblings → ℕ → ℕ → Siblings
deeper b k t = record { table = record { at = t; count = b.table.count }; depth = b.depth + k; left = b.left - k }

-- what stands in that table, and its fronts on the stack: what is said of them is said of the siblings g at depth
pub record Further (s : List ℕ) (b : Siblings) (count : ℕ) (fronts : List Front) (depth : ℕ) (g : Forest) (fs : List Node) : Type 0 where
  pub below : Forest
  pub nodes : List Node
  pub leads : TableOf s b.left b.table.at b.table.count below
  pub fronts_here : FrontsHere s (b.left - 1) fronts (b.depth * 256) count nodes
  pub same : children_right b.depth nodes below ≡ children_right depth fs g

-- a run that goes on k levels further down
pub record RunLeads (s : List ℕ) (b : Siblings) (old : List Front) (count : ℕ) (fronts : List Front) (k t : ℕ) : Type 0 where
  pub few : k ≤ b.left
  pub kept : KeptBelow ((b.depth + 1) * 256) old fronts
  pub is : (g : Forest) (fs : List Node) → TableOf s b.left b.table.at b.table.count g → FrontsHere s (b.left - 1) old (b.depth * 256) count fs → Further s (deeper b k t) count fronts b.depth g fs

-- what a run below a node tells
abbrev pub RunSays : List ℕ → Siblings → List Front → ℕ → List Front → RunEnd → Type 0
RunSays s b old count fronts (Said right) = ChildrenSays s b old count fronts right
RunSays s b old count fronts (GoesOn run) = RunLeads s b old count fronts run.levels run.end
