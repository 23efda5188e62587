-- Nodes of a forest by the walk, and by recursion on the forest: the same ones where sibling bytes differ. Assumes nothing.
use Prim.Native.Nat.{ℕ}
use mathlib.Core.Path.{◌≡◌, refl, sym, ap, ◌∙◌, subst}
use mathlib.Core.Bool.{Bool, true, false, cond}
use mathlib.Core.Logic.{◌⊎◌, inl, inr}
use mathlib.Core.List.{List, [], ◌∷◌}
use mathlib.Core.Option.{Option, none, some}
use lib.Dec.{eqb}
use borrow.Author.Tests.{eq-eqb}
use Rattle.definitions.proofs.Views.{Eq, eq}
use Rattle.trie.specs.Trie.{Lists, Forest, leaf, more, Node, child, walk, node_at}
use Rattle.trie.specs.Rule.{Absent, Apart}
use Rattle.trie.proofs.Walk.{lost}

-- the walk finds a node in the forest, and P holds of its path and its lists
pub record Stands (f : Forest) (P : List ℕ → Lists → Type 0) : Type 0 where
  pub byte : ℕ
  pub rest : List ℕ
  pub node : Node
  pub there : walk rest (child f byte) ≡ some node
  pub holds : P (byte ∷ rest) node.lists

pub stands_map : {P Q : List ℕ → Lists → Type 0} (f : Forest) → ((w : List ℕ) (h : Lists) → P w h → Q w h) → Stands f P → Stands f Q
stands_map f g s = record { byte = s.byte; rest = s.rest; node = s.node; there = s.there; holds = g (s.byte ∷ s.rest) s.node.lists s.holds }

pub stands_none : {P : List ℕ → Lists → Type 0} → Stands leaf P → ⊥
stands_none s = lost s.rest s.node s.there

pub absent_child : (b : ℕ) (f : Forest) → Absent b f → child f b ≡ none
absent_child b leaf a = refl
absent_child b (more c h below later) a = go (eqb c b) (eq c b) (absent_child b later a.1)
  where
    go : (o : Bool) → Eq o c b → child later b ≡ none → cond o (some (record { lists = h; children = below })) (child later b) ≡ none
    go true e ih = absurd (a.0 e)
    go false e ih = ih

module _ (P : List ℕ → Lists → Type 0) (b : ℕ) (h : Lists) (below later : Forest) where
  child_first : child (more b h below later) b ≡ some (record { lists = h; children = below })
  child_first = rw (eq-eqb b b refl)

  pub stands_first : P (b ∷ []) h → Stands (more b h below later) P
  stands_first p = record { byte = b; rest = []; node = record { lists = h; children = below }; there = child_first; holds = p }

  pub stands_below : Stands below (λ w. P (b ∷ w)) → Stands (more b h below later) P
  stands_below s = record { byte = b; rest = s.byte ∷ s.rest; node = s.node; there = ap (walk (s.byte ∷ s.rest)) child_first ∙ s.there; holds = s.holds }

  pub stands_later : Absent b later → Stands later P → Stands (more b h below later) P
  stands_later a s = record { byte = s.byte; rest = s.rest; node = s.node; there = go (eqb b s.byte) (eq b s.byte); holds = s.holds }
    where
      go : (o : Bool) → Eq o b s.byte → walk s.rest (cond o (some (record { lists = h; children = below })) (child later s.byte)) ≡ some s.node
      go true e = absurd (lost s.rest s.node (ap (walk s.rest) (sym (absent_child b later a) ∙ ap (child later) e) ∙ s.there))
      go false e = s.there

  -- the first one, one below it, or one of a later sibling
  pub stands_cases : Stands (more b h below later) P → P (b ∷ []) h ⊎ (Stands below (λ w. P (b ∷ w)) ⊎ Stands later P)
  stands_cases s = go (eqb b s.byte) (eq b s.byte) s.rest s.there s.holds
    where
      go : (o : Bool) → Eq o b s.byte → (w : List ℕ) → walk w (cond o (some (record { lists = h; children = below })) (child later s.byte)) ≡ some s.node → P (s.byte ∷ w) s.node.lists → P (b ∷ []) h ⊎ (Stands below (λ w. P (b ∷ w)) ⊎ Stands later P)
      go true e [] f p =
          let g : h ≡ s.node.lists = cc in
          inl (subst (P (b ∷ [])) (sym g) (subst (λ (c : ℕ). P (c ∷ []) s.node.lists) (sym e) p))
      go true e (c ∷ w) f p = inr (inl (record { byte = c; rest = w; node = s.node; there = f; holds = subst (λ (d : ℕ). P (d ∷ c ∷ w) s.node.lists) (sym e) p }))
      go false e w f p = inr (inr (record { byte = s.byte; rest = w; node = s.node; there = f; holds = p }))

-- ── sibling bytes differ below a node too ──

abbrev pub ApartIn : Option Node → Type 0
ApartIn none = Unit {0}
ApartIn (some m) = Apart m.children

apart_child : (f : Forest) (b : ℕ) → Apart f → ApartIn (child f b)
apart_child leaf b a = tt
apart_child (more c h below later) b a = go (eqb c b) (apart_child later b a.2)
  where
    go : (o : Bool) → ApartIn (child later b) → ApartIn (cond o (some (record { lists = h; children = below })) (child later b))
    go true ih = a.1
    go false ih = ih

apart_walk : (p : List ℕ) (o : Option Node) → ApartIn o → ApartIn (walk p o)
apart_walk [] o a = a
apart_walk (b ∷ p) none a = apart_walk p none tt
apart_walk (b ∷ p) (some m) a = apart_walk p (child m.children b) (apart_child m.children b a)

pub apart_at : (n : Node) → Apart n.children → (p : List ℕ) (m : Node) → node_at n p ≡ some m → Apart m.children
apart_at n a p m e = subst ApartIn e (apart_walk p (some n) a)
