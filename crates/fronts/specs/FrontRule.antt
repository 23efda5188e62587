-- What the functions of the rule say of fronts, whatever fronts stand there. Assumes nothing.
use Rattle.std.specs.Prelude.{ℕ, ◌+◌, ◌*◌, ◌-◌, ◌≡◌, Bool, List, length}
use Rattle.trie.specs.Trie.{Forest, Node}
use Rattle.trie.specs.Test.{next_fronts, front_lists, fronts_within, siblings}
use Rattle.location_lists.specs.declared.Lists.{Lists}
use Rattle.location_lists.specs.Lists.{AreLists, lists_in}
use Rattle.node_rule.specs.Parts.{TableOf}
use Rattle.fronts.specs.declared.Front.{Front}
use Rattle.fronts.specs.Fronts.{FrontsHere, KeptBelow}

-- the table leads to siblings among whose bytes are those of each front
abbrev pub SaysFronts : List ℕ → ℕ → ℕ → List Front → Bool → Type 0
SaysFronts s table children fronts r =
    (d e : ℕ) (g : Forest) (fs : List Node) → TableOf s d table children g → FrontsHere s e fronts 0 (length fronts) fs → r ≡ fronts_within fs g

-- the fronts of the root
pub record RootFronts (s : List ℕ) (table children : ℕ) (fronts : List Front) (count : ℕ) : Type 0 where
  pub are : (d : ℕ) (f : Forest) → TableOf s d table children f → FrontsHere s (d - 1) fronts 0 count (siblings f)

-- the fronts of a child by a byte, one level further up the stack, and their chunks and prefixes
pub record NextFronts (s : List ℕ) (b depth : ℕ) (old : List Front) (count : ℕ) (fronts : List Front) (met : ℕ) (lists : Lists) : Type 0 where
  pub kept : KeptBelow ((depth + 1) * 256) old fronts
  pub valid : AreLists s lists
  pub are : (d : ℕ) (fs : List Node) → FrontsHere s d old (depth * 256) count fs → FrontsHere s (d - 1) fronts ((depth + 1) * 256) met (next_fronts b fs)
  pub lists_are : (d : ℕ) (fs : List Node) → FrontsHere s d old (depth * 256) count fs → lists_in s lists ≡ front_lists (next_fronts b fs)
