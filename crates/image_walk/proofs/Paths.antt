-- No path of a trie exceeds its levels. Assumes nothing.
use Prim.Native.Nat.{ℕ, zero, suc, ◌≤◌}
use native.Mathlib.Omega.{arith}
use mathlib.Core.Path.{◌≡◌, refl, subst}
use mathlib.Core.Bool.{Bool, true, false, cond}
use mathlib.Core.List.{List, [], ◌∷◌}
use mathlib.Core.Option.{Option, none, some}
use lib.ListN.{length}
use lib.Dec.{eqb}
use Rattle.trie.specs.Trie.{Forest, leaf, more, Node, child, walk, node_at}
use Rattle.trie.proofs.Walk.{lost}
use Rattle.image_format.specs.Savable.{Short}

-- what is found has one level less below it
abbrev ShortFound : ℕ → Option Node → Type 0
ShortFound d none = Unit {0}
ShortFound d (some n) = Short d n.children

short_child : (d : ℕ) (f : Forest) (b : ℕ) → Short (suc d) f → ShortFound d (child f b)
short_child d leaf b h = tt
short_child d (more c x below later) b h = go (eqb c b) (short_child d later b h.1)
  where
    go : (o : Bool) → ShortFound d (child later b) → ShortFound d (cond o (some (record { lists = x; children = below })) (child later b))
    go true ih = h.0
    go false ih = ih

no_child : (f : Forest) (b : ℕ) → Short 0 f → child f b ≡ none
no_child leaf b h = refl
no_child (more c x below later) b h = absurd h

pub short_path : (path : List ℕ) (d : ℕ) (n m : Node) → Short d n.children → node_at n path ≡ some m → length path ≤ d
short_path [] d n m h e = omega arith
short_path (b ∷ path) zero n m h e = absurd (lost path m (subst (λ (o : Option Node). walk path o ≡ some m) (no_child n.children b h) e))
short_path (b ∷ path) (suc d) n m h e = go (child n.children b) (short_child d n.children b h) e (λ k x y. short_path path d k m x y)
  where
    go : (o : Option Node) → ShortFound d o → walk path o ≡ some m → ((k : Node) → Short d k.children → node_at k path ≡ some m → length path ≤ d) → suc (length path) ≤ suc d
    go none s f ih = absurd (lost path m f)
    go (some k) s f ih = let l = ih k s f in omega arith
