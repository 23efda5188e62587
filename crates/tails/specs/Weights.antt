-- What tails weigh: the entries of a node and of all below it, repeats kept. Assumes nothing.
use Rattle.std.specs.Prelude.{ℕ, ◌+◌, ◌-◌, cond, List, [], ◌∷◌, length}
use Rattle.tails.specs.Tails.{Tail}
use Rattle.tails.specs.Groups.{Group}

-- the entries of a tail in the node at depth d and all below it
abbrev pub weight : ℕ → Tail → ℕ
weight d t = cond t.entry.whole (1 + (length t.entry.path - d)) 1

-- the weights of tails, added up
abbrev pub weights : ℕ → List Tail → ℕ
weights d [] = 0
weights d (t ∷ ts) = weight d t + weights d ts

-- the weights of the tails of all groups, added up
abbrev pub group_weights : ℕ → List Group → ℕ
group_weights d [] = 0
group_weights d (g ∷ gs) = weights d g.tails + group_weights d gs
