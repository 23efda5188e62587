-- Tests of bytes: for each byte whether it is marked, or whether a table has a child for it. Assumes nothing.
use Rattle.std.specs.Prelude.{ℕ, ◌≡◌, ◌<◌, Bool, true, false, ◌&&◌, List, [], ◌∷◌, length, get_or}
use Rattle.std.proofs.Math.Option.{Option, none, some}
use Rattle.trie.specs.Trie.{Forest, leaf, more, Node, child}
use Rattle.trie.specs.Test.{is_some}
use Rattle.image_walk.specs.Tables.{entries_at, node_for}
use Rattle.node_rule.specs.Parts.{TableOf}
use Rattle.fronts.specs.declared.Front.{Front}
use Rattle.fronts.specs.Fronts.{FrontsHere}

-- ── the byte of each sibling ──

-- a test holds of it
abbrev pub each_byte : (ℕ → Bool) → Forest → Bool
each_byte p leaf = true
each_byte p (more b h below later) = p b && each_byte p later

-- of those of each front
abbrev pub each_front : (ℕ → Bool) → List Node → Bool
each_front p [] = true
each_front p (f ∷ fs) = each_byte p f.children && each_front p fs

-- the answers of a call are those of a test
abbrev pub Tests : (ℕ → Bool → Type 0) → (ℕ → Bool) → Type 0
Tests answers p = (b : ℕ) (r : Bool) → b < 256 → answers b r → r ≡ p b

-- whether it holds of each sibling that a table leads to
abbrev pub SaysEach : List ℕ → (ℕ → Bool) → ℕ → ℕ → Bool → Type 0
SaysEach s p table children r = (d : ℕ) (f : Forest) → TableOf s d table children f → r ≡ each_byte p f

-- of those of each front
abbrev pub SaysEachFront : List ℕ → (ℕ → Bool) → List Front → Bool → Type 0
SaysEachFront s p fronts r = (d : ℕ) (fs : List Node) → FrontsHere s d fronts 0 (length fronts) fs → r ≡ each_front p fs

-- ── tests ──

abbrev pub is_found : Option ℕ → Bool
is_found none = false
is_found (some at) = true

-- a table has a child for a byte
abbrev pub has_child : List ℕ → ℕ → ℕ → ℕ → Bool
has_child s table children b = is_found (node_for (entries_at s table children) b)

-- a byte is marked
abbrev pub marked : List Bool → ℕ → Bool
marked has b = get_or has b false

-- the bytes for which siblings have a child are, and no other
pub record MarksOf (has : List Bool) (g : Forest) : Type 0 where
  pub is : (b : ℕ) → marked has b ≡ is_some (child g b)

-- the marks are those of the siblings that a table leads to
abbrev pub SaysMarks : List ℕ → ℕ → ℕ → List Bool → Type 0
SaysMarks s table children has = (d : ℕ) (g : Forest) → TableOf s d table children g → MarksOf has g
