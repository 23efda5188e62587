-- The children of a node, one for each group of tails. Assumes nothing.
use Rattle.std.specs.Prelude.{ℕ, ◌+◌, List, [], ◌∷◌}
use Rattle.trie.specs.Trie.{Node}
use Rattle.tails.specs.Tails.{Tail}
use Rattle.tails.specs.Groups.{Group}
use Rattle.image_format.specs.Image.{Child, as_child, children_of}

-- the child that a group is
abbrev pub kid : (List Tail → Node) → Group → Child
kid f g = as_child g.byte (f g.tails).lists (children_of (f g.tails).children)

abbrev pub kids : (List Tail → Node) → List Group → List Child
kids f [] = []
kids f (g ∷ gs) = kid f g ∷ kids f gs

abbrev pub no_child : Child
no_child = record { byte = 0; size = 0; nodes = 0; entries = 0; bytes = λ at. [] }

-- the sizes of the nodes of some children
abbrev pub sizes : List Child → ℕ
sizes [] = 0
sizes (k ∷ ks) = k.size + sizes ks
