-- Runs of nodes that have one child and no location, each with one front that has one child and neither chunk nor prefix. Assumes nothing.
use Rattle.std.specs.Prelude.{ℕ, zero, suc, ◌+◌, ◌-◌, ◌≤◌, ◌≡◌, Bool, true, cond, ◌&&◌, List, [], ◌∷◌, eqb, Option, Some, None}
use Rattle.std.proofs.Math.Option as entry
use Rattle.words.specs.Words.{le64}
use Rattle.trie.specs.Trie.{Lists, Forest, leaf, more, Node}
use Rattle.trie.specs.Test.{all_ended, child_lists}
use Rattle.image_format.specs.Held.{Entry}
use Rattle.node_rule.specs.Parts.{TableOf}
use Rattle.single_runs.specs.Says.{children_right}
use Rattle.image_walk.specs.declared.Node.{Node as Parts}
use Rattle.single_runs.specs.declared.Pair.{Pair}

-- a table of one entry behind its count at an index
pub record SingleTable (s : List ℕ) (behind table : ℕ) : Type 0 where
  pub one : le64 s behind ≡ 1
  pub table_is : behind + 8 ≡ table

-- a node with one child, and neither prefix nor chunk, and its table
pub record BareSingle (p : Parts) (table : ℕ) : Type 0 where
  pub prefixes : p.prefixes.count ≡ 0
  pub chunks : p.chunks.count ≡ 0
  pub leads : p.table.at ≡ table
  pub one : p.table.count ≡ 1

-- the byte of an entry whose node stands at an index
abbrev pub byte_behind : entry.Option Entry → ℕ → Option ℕ
byte_behind entry.none due = None
byte_behind (entry.some e) due = cond (eqb e.node due) (Some e.byte) None

-- g and f are one sibling each, by the same byte: that of g has no location, that of f is a front with neither chunk nor prefix, and one child stands below each
pub record DownTo (s : List ℕ) (d e table other : ℕ) (g f : Forest) : Type 0 where
  pub byte : ℕ
  pub lists : Lists
  pub below : Forest
  pub front : Node
  pub is : g ≡ more byte lists below leaf
  pub front_is : f ≡ more byte front.lists front.children leaf
  pub prefixes : [] ≡ lists.prefixes
  pub chunks : [] ≡ lists.chunks
  pub suffixes : [] ≡ lists.suffixes
  pub front_chunks : [] ≡ front.lists.chunks
  pub front_prefixes : [] ≡ front.lists.prefixes
  pub leads : TableOf s (d - 1) table 1 below
  pub front_leads : TableOf s (e - 1) other 1 front.children
  pub some : below ≡ leaf → ⊥

-- two tables of one entry lead to two others
abbrev pub Down : List ℕ → Pair → Pair → Type 0
Down s p q = (d e : ℕ) (g f : Forest) → TableOf s d p.table 1 g → TableOf s e p.other 1 f → DownTo s d e q.table q.other g f

-- k steps of R lead from x to y
abbrev pub StepsTo : {T : Type 0} → (T → T → Type 0) → T → ℕ → T → Type 0
StepsTo R x zero y = x ≡ y
StepsTo {T} R x (suc k) z = (y : T) × StepsTo R x k y × R y z

-- k levels below g, which has one front: what stands there, and whether the last node passed has the suffixes that it owes
pub record RunAt (s : List ℕ) (depth d e k t o : ℕ) (g : Forest) (front : Node) : Type 0 where
  pub below : Forest
  pub last : Node
  pub leads : TableOf s (d - k) t 1 below
  pub front_leads : TableOf s (e - k) o 1 last.children
  pub right : Bool
  pub first : k ≡ 0 → right ≡ true
  pub after : (k ≡ 0 → ⊥) → right ≡ all_ended (child_lists below)
  pub same : (right && children_right (depth + k) (last ∷ []) below) ≡ children_right depth (front ∷ []) g

pub record RunTo (s : List ℕ) (p : Pair) (most k : ℕ) (q : Pair) : Type 0 where
  pub few : k ≤ most
  pub is : (depth d e : ℕ) (g : Forest) (front : Node) → TableOf s d p.table 1 g → TableOf s e p.other 1 front.children → RunAt s depth d e k q.table q.other g front

-- whether siblings leave their parent without suffixes
abbrev pub SaysNone : List ℕ → ℕ → Bool → Type 0
SaysNone s table r = (d : ℕ) (f : Forest) → TableOf s d table 1 f → r ≡ all_ended (child_lists f)

-- a leaf with one prefix, and neither chunk nor suffix
abbrev pub is_leaf : Parts → Bool
is_leaf p = eqb p.table.count 0 && (eqb p.chunks.count 0 && (eqb p.suffixes.count 0 && eqb p.prefixes.count 1))

-- two tables of one entry lead to two leaves
pub record LeafAt (s : List ℕ) (depth : ℕ) (right : Bool) (g : Forest) (front : Node) : Type 0 where
  pub none : all_ended (child_lists g) ≡ true
  pub says : right ≡ children_right depth (front ∷ []) g

abbrev pub LeafSays : List ℕ → Pair → Bool → Type 0
LeafSays s p right = (depth d e : ℕ) (g : Forest) (front : Node) → TableOf s d p.table 1 g → TableOf s e p.other 1 front.children → LeafAt s depth right g front
