-- The fronts of a node, and the lists of fronts and of children, by paths. Assumes nothing.
use Prim.Native.Nat.{ℕ}
use native.Mathlib.Omega.{arith}
use mathlib.Core.Path.{◌≡◌, refl, sym, ap, ◌∙◌, subst}
use mathlib.Core.Bool.{Bool, true, false, cond}
use mathlib.Core.Logic.{◌⊎◌, inl, inr, ◌↔◌}
use mathlib.Core.List.Memᴰ.{cases_cons as split}
use mathlib.Core.List.Memᴰ.{head as here}
use mathlib.Core.List.Memᴰ.{not-nil}
use mathlib.Core.List.Memᴰ.{tail as later}
use mathlib.Core.List.{List, [], ◌∷◌, ◌++◌, Memᴰ as Mem}
use mathlib.Core.Option.{Option, none, some}
use lib.Dec.{eqb}
use borrow.Author.Tests.{eq-eqb}
use Rattle.definitions.specs.Location.{Location}
use Rattle.definitions.proofs.Views.{Eq, eq}
use Rattle.trie.specs.Trie.{Lists, Forest, leaf, more, Node, child, child_of, node_at}
use Rattle.trie.specs.Rule.{Absent, Apart}
use Rattle.trie.specs.Test.{and_list, child_lists, and_node, next_fronts, front_lists, siblings}
use Rattle.trie.proofs.Walk.{walk_append}
use Rattle.trie.proofs.Union.{InLists, in_none, in_and}

pub never_some : {A : Type 0} {n : Node} → none ≡ some n → A
never_some e = absurd (let z : ◌≡◌ {A = ℕ} 0 1 = cc in omega arith)

pub same_some : {m n : Node} → some m ≡ some n → m ≡ n
same_some e = cc

-- ── siblings ──

abbrev node_of : Lists → Forest → Node
node_of h f = record { lists = h; children = f }

-- a sibling's child by its own byte
pub child_first : (b : ℕ) (h : Lists) (below rest : Forest) → child (more b h below rest) b ≡ some (node_of h below)
child_first b h below rest = rw (eq-eqb b b refl)

pub absent_none : (b : ℕ) (f : Forest) (n : Node) → Absent b f → child f b ≡ some n → ⊥
absent_none b leaf n a e = never_some e
absent_none b (more c h below rest) n a e = go (eqb c b) (eq c b) (absent_none b rest n a.1) e
  where
    go : (o : Bool) → Eq o c b → (child rest b ≡ some n → ⊥) → cond o (some (node_of h below)) (child rest b) ≡ some n → ⊥
    go true f ih g = a.0 f
    go false f ih g = ih g

-- a later sibling is found behind the first
pub child_later : (b : ℕ) (h : Lists) (below rest : Forest) → Absent b rest → (c : ℕ) (n : Node) → child rest c ≡ some n → child (more b h below rest) c ≡ some n
child_later b h below rest a c n e = go (eqb b c) (eq b c)
  where
    go : (o : Bool) → Eq o b c → cond o (some (node_of h below)) (child rest c) ≡ some n
    go true f = absurd (absent_none b rest n a (subst (λ (x : ℕ). child rest x ≡ some n) (sym f) e))
    go false f = e

-- a child by some byte
pub record ChildOf (f : Forest) (n : Node) : Type 0 where
  pub byte : ℕ
  pub there : child f byte ≡ some n

pub siblings_are : (f : Forest) → Apart f → (n : Node) → Mem n (siblings f) ↔ ChildOf f n
siblings_are leaf a n = ((λ h. absurd (not-nil h)), λ c. never_some c.there)
siblings_are (more b h below rest) a n = ((λ m. to (siblings_are rest a.2 n).0 (split m)), λ c. fro (siblings_are rest a.2 n).1 c)
  where
    to : (Mem n (siblings rest) → ChildOf rest n) → (n ≡ node_of h below) ⊎ Mem n (siblings rest) → ChildOf (more b h below rest) n
    to ih (inl e) = record { byte = b; there = child_first b h below rest ∙ ap some (sym e) }
    to ih (inr k) = let c = ih k in record { byte = c.byte; there = child_later b h below rest a.0 c.byte n c.there }

    fro : (ChildOf rest n → Mem n (siblings rest)) → ChildOf (more b h below rest) n → Mem n (siblings (more b h below rest))
    fro ih c = go (eqb b c.byte) c.there
      where
        go : (o : Bool) → cond o (some (node_of h below)) (child rest c.byte) ≡ some n → Mem n (siblings (more b h below rest))
        go true e = here (sym (same_some e))
        go false e = later (ih (record { byte = c.byte; there = e }))

-- ── fronts ──

-- the node f has one byte more in front of the path
pub record FrontOf (n : Node) (path : List ℕ) (f : Node) : Type 0 where
  pub byte : ℕ
  pub there : node_at n (byte ∷ path) ≡ some f

-- fs are the fronts of the path
abbrev pub Fronts : Node → List ℕ → List Node → Type 0
Fronts n path fs = (f : Node) → Mem f fs ↔ FrontOf n path f

pub fronts_root : (n : Node) → Apart n.children → Fronts n [] (siblings n.children)
fronts_root n a f = ((λ h. let c = (siblings_are n.children a f).0 h in record { byte = c.byte; there = c.there }), λ w. (siblings_are n.children a f).1 (record { byte = w.byte; there = w.there }))

-- a child by b of one of the fronts
record NextOf (b : ℕ) (fs : List Node) (g : Node) : Type 0 where
  front : Node
  listed : Mem front fs
  there : child front.children b ≡ some g

next_are : (b : ℕ) (fs : List Node) (g : Node) → Mem g (next_fronts b fs) ↔ NextOf b fs g
next_are b [] g = ((λ h. absurd (not-nil h)), λ w. absurd (not-nil w.listed))
next_are b (f ∷ fs) g = (to (child f.children b) refl (next_are b fs g).0, λ w. fro (next_are b fs g).1 w (split w.listed))
  where
    on : NextOf b fs g → NextOf b (f ∷ fs) g
    on w = record { front = w.front; listed = later w.listed; there = w.there }

    two : (x : Node) → child f.children b ≡ some x → (Mem g (next_fronts b fs) → NextOf b fs g) → (g ≡ x) ⊎ Mem g (next_fronts b fs) → NextOf b (f ∷ fs) g
    two x e ih (inl i) = record { front = f; listed = here refl; there = e ∙ ap some (sym i) }
    two x e ih (inr k) = on (ih k)

    to : (o : Option Node) → child f.children b ≡ o → (Mem g (next_fronts b fs) → NextOf b fs g) → Mem g (and_node o (next_fronts b fs)) → NextOf b (f ∷ fs) g
    to none e ih h = on (ih h)
    to (some x) e ih h = two x e ih (split h)

    put : (o : Option Node) → Mem g (next_fronts b fs) → Mem g (and_node o (next_fronts b fs))
    put none h = h
    put (some x) h = later h

    fro : (NextOf b fs g → Mem g (next_fronts b fs)) → (w : NextOf b (f ∷ fs) g) → (w.front ≡ f) ⊎ Mem w.front fs → Mem g (next_fronts b (f ∷ fs))
    fro ih w (inl e) =
        let i : child f.children b ≡ some g = ap (λ (x : Node). child x.children b) (sym e) ∙ w.there in
        subst (λ (o : Option Node). Mem g (and_node o (next_fronts b fs))) (sym i) (here refl)
    fro ih w (inr k) = put (child f.children b) (ih (record { front = w.front; listed = k; there = w.there }))

-- the walk's last step
pub walk_last : (n : Node) (path : List ℕ) (b : ℕ) (m : Node) → node_at n path ≡ some m → node_at n (path ++ (b ∷ [])) ≡ child m.children b
walk_last n path b m e = walk_append path (b ∷ []) (some n) ∙ ap (λ (o : Option Node). child_of o b) e

-- a node behind the last byte has a node in front of it
pub record Parent (n : Node) (path : List ℕ) (b : ℕ) (g : Node) : Type 0 where
  pub node : Node
  pub there : node_at n path ≡ some node
  pub down : child node.children b ≡ some g

pub parent : (n : Node) (path : List ℕ) (b : ℕ) (g : Node) → node_at n (path ++ (b ∷ [])) ≡ some g → Parent n path b g
parent n path b g e = go (node_at n path) refl (sym (walk_append path (b ∷ []) (some n)) ∙ e)
  where
    go : (o : Option Node) → node_at n path ≡ o → child_of o b ≡ some g → Parent n path b g
    go none f h = never_some h
    go (some m) f h = record { node = m; there = f; down = h }

pub fronts_next : (n : Node) (path : List ℕ) (fs : List Node) (b : ℕ) → Fronts n path fs → Fronts n (path ++ (b ∷ [])) (next_fronts b fs)
fronts_next n path fs b w g = ((λ h. to ((next_are b fs g).0 h)), fro)
  where
    to : NextOf b fs g → FrontOf n (path ++ (b ∷ [])) g
    to k =
        let f : FrontOf n path k.front = (w k.front).0 k.listed in
        record { byte = f.byte; there = walk_last n (f.byte ∷ path) b k.front f.there ∙ k.there }

    fro : FrontOf n (path ++ (b ∷ [])) g → Mem g (next_fronts b fs)
    fro k =
        let p : Parent n (k.byte ∷ path) b g = parent n (k.byte ∷ path) b g k.there in
        (next_are b fs g).1 (record { front = p.node; listed = (w p.node).1 (record { byte = k.byte; there = p.there }); there = p.down })

-- ── the lists of fronts, and of children ──

-- a location of one of two lists of a node of these
pub record Ends (fs : List Node) (m : Location) : Type 0 where
  pub node : Node
  pub listed : Mem node fs
  pub member : Mem m node.lists.chunks ⊎ Mem m node.lists.prefixes

pub front_lists_are : (fs : List Node) (m : Location) → InLists (front_lists fs) m ↔ Ends fs m
front_lists_are [] m = ((λ i. absurd (in_none i)), λ e. absurd (not-nil e.listed))
front_lists_are (f ∷ fs) m = ((λ i. to (front_lists_are fs m).0 i), λ e. fro (front_lists_are fs m).1 e (split e.listed))
  where
    rest : List (List Location)
    rest = and_list f.lists.prefixes (front_lists fs)

    first : Mem m f.lists.chunks ⊎ Mem m f.lists.prefixes → Ends (f ∷ fs) m
    first h = record { node = f; listed = here refl; member = h }

    second : (InLists (front_lists fs) m → Ends fs m) → Mem m f.lists.prefixes ⊎ InLists (front_lists fs) m → Ends (f ∷ fs) m
    second ih (inl h) = first (inr h)
    second ih (inr i) = let e = ih i in record { node = e.node; listed = later e.listed; member = e.member }

    one : (InLists (front_lists fs) m → Ends fs m) → Mem m f.lists.chunks ⊎ InLists rest m → Ends (f ∷ fs) m
    one ih (inl h) = first (inl h)
    one ih (inr i) = second ih ((in_and f.lists.prefixes (front_lists fs)).0 i)

    to : (InLists (front_lists fs) m → Ends fs m) → InLists (front_lists (f ∷ fs)) m → Ends (f ∷ fs) m
    to ih i = one ih ((in_and f.lists.chunks rest).0 i)

    put : Mem m f.lists.chunks ⊎ Mem m f.lists.prefixes → InLists (front_lists (f ∷ fs)) m
    put (inl h) = (in_and f.lists.chunks rest).1 (inl h)
    put (inr h) = (in_and f.lists.chunks rest).1 (inr ((in_and f.lists.prefixes (front_lists fs)).1 (inl h)))

    fro : (Ends fs m → InLists (front_lists fs) m) → (e : Ends (f ∷ fs) m) → (e.node ≡ f) ⊎ Mem e.node fs → InLists (front_lists (f ∷ fs)) m
    fro ih e (inl g) = put (subst (λ (x : Node). Mem m x.lists.chunks ⊎ Mem m x.lists.prefixes) g e.member)
    fro ih e (inr k) = (in_and f.lists.chunks rest).1 (inr ((in_and f.lists.prefixes (front_lists fs)).1 (inr (ih (record { node = e.node; listed = k; member = e.member })))))

-- a location of one of two lists of a child
pub record Under (f : Forest) (m : Location) : Type 0 where
  pub node : Node
  pub child_of_it : ChildOf f node
  pub member : Mem m node.lists.chunks ⊎ Mem m node.lists.suffixes

pub child_lists_are : (f : Forest) → Apart f → (m : Location) → InLists (child_lists f) m ↔ Under f m
child_lists_are leaf a m = ((λ i. absurd (in_none i)), λ u. never_some u.child_of_it.there)
child_lists_are (more b h below rest) a m = ((λ i. to (child_lists_are rest a.2 m).0 i), λ u. fro (child_lists_are rest a.2 m).1 u)
  where
    lss : List (List Location)
    lss = and_list h.suffixes (child_lists rest)

    first : Mem m h.chunks ⊎ Mem m h.suffixes → Under (more b h below rest) m
    first k = record { node = node_of h below; child_of_it = record { byte = b; there = child_first b h below rest }; member = k }

    second : (InLists (child_lists rest) m → Under rest m) → Mem m h.suffixes ⊎ InLists (child_lists rest) m → Under (more b h below rest) m
    second ih (inl k) = first (inr k)
    second ih (inr i) =
        let u = ih i in
        record { node = u.node; child_of_it = record { byte = u.child_of_it.byte; there = child_later b h below rest a.0 u.child_of_it.byte u.node u.child_of_it.there }; member = u.member }

    one : (InLists (child_lists rest) m → Under rest m) → Mem m h.chunks ⊎ InLists lss m → Under (more b h below rest) m
    one ih (inl k) = first (inl k)
    one ih (inr i) = second ih ((in_and h.suffixes (child_lists rest)).0 i)

    to : (InLists (child_lists rest) m → Under rest m) → InLists (child_lists (more b h below rest)) m → Under (more b h below rest) m
    to ih i = one ih ((in_and h.chunks lss).0 i)

    put : Mem m h.chunks ⊎ Mem m h.suffixes → InLists (child_lists (more b h below rest)) m
    put (inl k) = (in_and h.chunks lss).1 (inl k)
    put (inr k) = (in_and h.chunks lss).1 (inr ((in_and h.suffixes (child_lists rest)).1 (inl k)))

    fro : (Under rest m → InLists (child_lists rest) m) → Under (more b h below rest) m → InLists (child_lists (more b h below rest)) m
    fro ih u = go (eqb b u.child_of_it.byte) u.child_of_it.there
      where
        go : (o : Bool) → cond o (some (node_of h below)) (child rest u.child_of_it.byte) ≡ some u.node → InLists (child_lists (more b h below rest)) m
        go true e = put (subst (λ (x : Node). Mem m x.lists.chunks ⊎ Mem m x.lists.suffixes) (sym (same_some e)) u.member)
        go false e = (in_and h.chunks lss).1 (inr ((in_and h.suffixes (child_lists rest)).1 (inr (ih (record { node = u.node; child_of_it = record { byte = u.child_of_it.byte; there = e }; member = u.member })))))
