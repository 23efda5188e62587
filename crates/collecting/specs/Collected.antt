-- What collecting from an image in place asks for, and what it adds to a set of places. Assumes nothing.
use Rattle.std.specs.Prelude.{ℕ, ◌≤◌, ◌≡◌, List, ◌++◌, Option, Some, ⊤}
use Rattle.definitions.specs.Location.{Location}
use Rattle.std.proofs.Math.Option.{some}
use Rattle.trie.specs.Trie.{Forest, Node, collect, collect_forest}
use Rattle.image_walk.specs.declared.Node.{Node as Parts}
use Rattle.image_walk.specs.Parts.{parts_at}
use Rattle.image_walk.specs.declared.Table.{Table}
use Rattle.image_walk.specs.Tables.{slot_in, slots_from}
use Rattle.image_walk.specs.Bounds.{TableHere}
use Rattle.image_walk.specs.Here.{NodeHere, Matches}
use Rattle.place_buffer.specs.declared.PlaceSet.{PlaceSet}
use Rattle.place_buffer.specs.Buffer.{Taken}

-- ── what is asked for ──

-- some node stands at index `at`, with at most d levels below it
pub record Standing (img : List ℕ) (d at : ℕ) : Type 0 where
  pub node : Node
  pub here : NodeHere img d at node

-- the entries of a table of so many lead to some siblings, each with at most d levels below it
pub record Siblings (img : List ℕ) (d table children : ℕ) : Type 0 where
  pub forest : Forest
  pub bounds : TableHere img table children
  pub matches : Matches img d (slots_from img table children children 0) forest

-- ── the way down ──

-- a table has one entry, which leads to the node at index `at`
pub record LeadsTo (img : List ℕ) (table : Table) (at : ℕ) : Type 0 where
  pub single : table.count ≡ 1
  pub byte : ℕ
  pub slot : some (record { byte = byte; node = at }) ≡ slot_in img table.at table.count 0

-- ── what is added: the set p became the set r, or has no room ──

-- the prefixes and chunks of the node at index `at` and of all under it
pub record Collected (img : List ℕ) (d at : ℕ) (p r : PlaceSet) (o : Option ⊤) : Type 0 where
  pub taken : (n : Node) → NodeHere img d at n → Taken p r (collect n) o

-- those of the siblings that a table leads to and of all under them
pub record AllCollected (img : List ℕ) (d table children : ℕ) (p r : PlaceSet) (o : Option ⊤) : Type 0 where
  pub taken : (f : Forest) → Matches img d (slots_from img table children children 0) f → Taken p r (collect_forest f) o

-- the suffixes and chunks of the node at index `at`
pub record Ended (img : List ℕ) (at : ℕ) (p r : PlaceSet) (o : Option ⊤) : Type 0 where
  pub taken : (d : ℕ) (n : Node) → NodeHere img d at n → Taken p r (n.lists.suffixes ++ n.lists.chunks) o

-- ── nodes left behind on the way down ──

-- what is added so far and the node at index `at` with all under it are what the node n and all under it hold
pub record Reached (img : List ℕ) (d at : ℕ) (p r : PlaceSet) (n : Node) : Type 0 where
  pub done : List Location
  pub node : Node
  pub here : NodeHere img d at node
  pub whole : collect n ≡ done ++ collect node
  pub taken : Taken p r done (Some tt)

-- from index `at` down a node with these parts is reached, with at most so many of d levels below it
pub record Followed (img : List ℕ) (d at : ℕ) (p r : PlaceSet) (m : Parts) (left : ℕ) : Type 0 where
  pub next : ℕ
  pub parts : m ≡ parts_at img next
  pub fewer : left ≤ d
  pub reached : (n : Node) → NodeHere img d at n → Reached img left next p r n
