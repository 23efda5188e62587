-- The trie that a log of pieces makes has at most the nodes and entries that the pieces are charged for. Assumes nothing.
use Prim.Native.Nat.{ℕ, zero, suc, ◌+◌, ◌*◌, ◌≤◌}
use native.Mathlib.Nat.{suc-mul, mul-suc}
use native.Mathlib.Omega.{arith}
use mathlib.Core.Path.{◌≡◌, refl, subst}
use mathlib.Core.Bool.{Bool, true, false, cond}
use mathlib.Core.List.Memᴰ.{head as here}
use mathlib.Core.List.Memᴰ.{not-nil}
use mathlib.Core.List.Memᴰ.{tail as later}
use mathlib.Core.List.{List, [], ◌∷◌, ◌++◌, Memᴰ as Mem}
use lib.ListN.{length, length-append}
use lib.Dec.{eqb}
use Rattle.definitions.specs.Location.{Location, moved}
use Rattle.definitions.specs.Blocks.{Piece, node_charge, entry_charge, charge}
use Rattle.definitions.proofs.Order.{length_normal}
use Rattle.definitions.proofs.Views.{Eq, eq}
use Rattle.trie.specs.Trie.{Node, root, entries_of, forest_nodes, forest_entries, nodes, entries}
use Rattle.trie.specs.Build.{Entry, parts, entered, entered_all, in_prefixes, in_chunks, in_suffixes, gather, lists_of, behind_byte, behind, grow, build, trie_of}
use Rattle.trie.proofs.BuildBytes.{Distinct}
use Rattle.trie.proofs.BuildPaths.{entry_of, GoesOn, onward, distinct_onward, onward_mem}

-- ── sums over entries, and over what goes on with each byte ──

abbrev Weight : Type 0
Weight = List ℕ → Bool → ℕ

abbrev weigh : Weight → List Entry → ℕ
weigh f [] = 0
weigh f (e ∷ es) = f e.path e.whole + weigh f es

weigh_append : (f : Weight) (xs ys : List Entry) → weigh f (xs ++ ys) ≡ weigh f xs + weigh f ys
weigh_append f [] ys = omega arith
weigh_append f (x ∷ xs) ys = omega (arith, weigh_append f xs ys)

-- two weights within a third
weigh_both : (f g h : Weight) → ((u : List ℕ) (w : Bool) → f u w + g u w ≤ h u w) → (es : List Entry) → weigh f es + weigh g es ≤ weigh h es
weigh_both f g h k [] = omega arith
weigh_both f g h k (e ∷ es) = omega (arith, k e.path e.whole, weigh_both f g h k es)

abbrev spread : Weight → List ℕ → List Entry → ℕ
spread f [] es = 0
spread f (b ∷ bs) es = weigh f (behind b es) + spread f bs es

-- the part of one entry with this path
abbrev share : Weight → List ℕ → List ℕ → Entry → ℕ
share f [] u e = 0
share f (b ∷ bs) u e = weigh f (behind_byte b u e) + share f bs u e

spread_nil : (f : Weight) (bs : List ℕ) → spread f bs [] ≡ 0
spread_nil f [] = refl
spread_nil f (b ∷ bs) = omega (arith, spread_nil f bs)

spread_cons : (f : Weight) (bs : List ℕ) (e : Entry) (es : List Entry) → spread f bs (e ∷ es) ≡ share f bs e.path e + spread f bs es
spread_cons f [] e es = refl
spread_cons f (b ∷ bs) e es = omega (arith, spread_cons f bs e es, weigh_append f (behind_byte b e.path e) (behind b es))

share_none : (f : Weight) (bs : List ℕ) (c : ℕ) (u : List ℕ) (e : Entry) → (Mem c bs → ⊥) → share f bs (c ∷ u) e ≡ 0
share_none f [] c u e n = refl
share_none f (b ∷ bs) c u e n = go (eqb c b) (eq c b) (share_none f bs c u e (λ h. n (later h)))
  where
    go : (o : Bool) → Eq o c b → share f bs (c ∷ u) e ≡ 0 → weigh f (cond o (entry_of u e.at e.whole ∷ []) []) + share f bs (c ∷ u) e ≡ 0
    go true k ih = absurd (n (here k))
    go false k ih = omega arith

share_end : (f : Weight) (bs : List ℕ) (e : Entry) → share f bs [] e ≡ 0
share_end f [] e = refl
share_end f (b ∷ bs) e = omega (arith, share_end f bs e)

-- an entry goes on with one byte only
share_once : (f : Weight) (bs : List ℕ) → Distinct bs → (c : ℕ) (u : List ℕ) (e : Entry) → share f bs (c ∷ u) e ≤ f u e.whole
share_once f [] d c u e = omega arith
share_once f (b ∷ bs) d c u e = go (eqb c b) (eq c b) (share_once f bs d.1 c u e)
  where
    go : (o : Bool) → Eq o c b → share f bs (c ∷ u) e ≤ f u e.whole → weigh f (cond o (entry_of u e.at e.whole ∷ []) []) + share f bs (c ∷ u) e ≤ f u e.whole
    go true k ih = omega (arith, share_none f bs c u e (λ h. d.0 (subst (λ (x : ℕ). Mem x bs) k h)))
    go false k ih = omega arith

-- what goes on with distinct bytes weighs no more than a weight that covers one byte more
spread_within : (f g : Weight) → ((b : ℕ) (u : List ℕ) (w : Bool) → f u w ≤ g (b ∷ u) w) → (bs : List ℕ) → Distinct bs → (es : List Entry) → spread f bs es ≤ weigh g es
spread_within f g k bs d [] = omega (arith, spread_nil f bs)
spread_within f g k bs d (e ∷ es) = omega (arith, spread_cons f bs e es, spread_within f g k bs d es, one e.path)
  where
    one : (u : List ℕ) → share f bs u e ≤ g u e.whole
    one [] = omega (arith, share_end f bs e)
    one (c ∷ u) = omega (arith, share_once f bs d c u e, k c u e.whole)

-- ── nodes ──

abbrev long : Weight
long u w = length u

abbrev longer : Weight
longer u w = suc (length u)

longer_more : {x : Entry} (xs : List Entry) → Mem x xs → suc (weigh long xs) ≤ weigh longer xs
longer_more [] h = absurd (not-nil h)
longer_more (x ∷ xs) h = omega (arith, each xs)
  where
    each : (ys : List Entry) → weigh long ys ≤ weigh longer ys
    each [] = omega arith
    each (y ∷ ys) = omega (arith, each ys)

nodes_grow : (f : List Entry → Node) → ((es : List Entry) → forest_nodes (f es).children ≤ weigh long es) → (bs : List ℕ) (es : List Entry) → ((b : ℕ) → Mem b bs → GoesOn b es) → forest_nodes (grow f bs es) ≤ spread longer bs es
nodes_grow f k [] es g = omega arith
nodes_grow f k (b ∷ bs) es g = omega (arith, k (behind b es), longer_more (behind b es) (g b (here refl)).listed, nodes_grow f k bs es (λ c h. g c (later h)))

nodes_build : (d : ℕ) (es : List Entry) → forest_nodes (build d es).children ≤ weigh long es
nodes_build zero es = omega arith
nodes_build (suc d) es = omega (arith, nodes_grow (build d) (nodes_build d) (onward es) es (λ b h. onward_mem es h), spread_within longer long (λ b u w. omega arith) (onward es) (distinct_onward es) es)

-- ── entries ──

-- the places of an entry on its path
abbrev places : Weight
places u true = suc (length u)
places u false = 1

-- that here, and those further on
abbrev place_here : Weight
place_here [] w = 1
place_here (b ∷ u) true = 1
place_here (b ∷ u) false = 0

abbrev places_on : Weight
places_on [] w = 0
places_on (b ∷ u) w = places u w

places_split : (u : List ℕ) (w : Bool) → place_here u w + places_on u w ≤ places u w
places_split [] true = omega arith
places_split [] false = omega arith
places_split (b ∷ u) true = omega arith
places_split (b ∷ u) false = omega arith

lists_one : (u : List ℕ) (w : Bool) (l : Location) → length (in_prefixes u w l) + length (in_chunks u w l) + length (in_suffixes u w l) ≤ place_here u w
lists_one [] true l = omega arith
lists_one [] false l = omega arith
lists_one (b ∷ u) true l = omega arith
lists_one (b ∷ u) false l = omega arith

gathered : (es : List Entry) → length (gather in_prefixes es) + length (gather in_chunks es) + length (gather in_suffixes es) ≤ weigh place_here es
gathered [] = omega arith
gathered (e ∷ es) = omega (
  arith,
  gathered es,
  lists_one e.path e.whole e.at,
  length-append (in_prefixes e.path e.whole e.at) (gather in_prefixes es),
  length-append (in_chunks e.path e.whole e.at) (gather in_chunks es),
  length-append (in_suffixes e.path e.whole e.at) (gather in_suffixes es),
)

entries_here : (es : List Entry) → entries_of (lists_of es) ≤ weigh place_here es
entries_here es = omega (arith, gathered es, length_normal (gather in_prefixes es), length_normal (gather in_chunks es), length_normal (gather in_suffixes es))

entries_grow : (f : List Entry → Node) → ((es : List Entry) → entries_of (f es).lists + forest_entries (f es).children ≤ weigh places es) → (bs : List ℕ) (es : List Entry) → forest_entries (grow f bs es) ≤ spread places bs es
entries_grow f k [] es = omega arith
entries_grow f k (b ∷ bs) es = omega (arith, k (behind b es), entries_grow f k bs es)

entries_build : (d : ℕ) (es : List Entry) → entries_of (build d es).lists + forest_entries (build d es).children ≤ weigh places es
entries_build zero es = omega (arith, entries_here es, weigh_both place_here places_on places places_split es)
entries_build (suc d) es = omega (
  arith,
  entries_here es,
  entries_grow (build d) (entries_build d) (onward es) es,
  spread_within places places_on (λ b u w. omega arith) (onward es) (distinct_onward es) es,
  weigh_both place_here places_on places places_split es,
)

-- ── what a piece enters ──

triangle : (n : ℕ) → n * (n + 1) + 2 * suc n ≡ suc n * (suc n + 1)
triangle n = omega (arith, suc-mul n (suc n + 1), mul-suc n (n + 1))

parts_long : (l : Location) (bs : List ℕ) → 2 * weigh long (parts l bs) + 2 * length bs ≡ length bs * (length bs + 1)
parts_long l [] = refl
parts_long l (b ∷ []) = refl
parts_long l (b ∷ c ∷ bs) = omega (arith, parts_long (moved l 1) (c ∷ bs), triangle (suc (length bs)))

parts_places : (l : Location) (b : ℕ) (bs : List ℕ) → weigh places (parts l (b ∷ bs)) ≡ length bs
parts_places l b [] = refl
parts_places l b (c ∷ bs) = omega (arith, parts_places (moved l 1) c bs)

entered_long : (p : Piece) → weigh long (entered p) ≤ node_charge (length p.bytes)
entered_long p = omega (arith, weigh_append long (parts p.at p.bytes) (entry_of p.bytes p.at true ∷ []), parts_long p.at p.bytes)

entered_places : (p : Piece) → weigh places (entered p) ≤ entry_charge (length p.bytes)
entered_places p = omega (arith, weigh_append places (parts p.at p.bytes) (entry_of p.bytes p.at true ∷ []), go p.bytes)
  where
    go : (bs : List ℕ) → weigh places (parts p.at bs) + suc (length bs) ≤ entry_charge (length bs)
    go [] = omega arith
    go (b ∷ bs) = omega (arith, parts_places p.at b bs)

all_within : (f : Weight) (g : ℕ → ℕ) → ((p : Piece) → weigh f (entered p) ≤ g (length p.bytes)) → (ps : List Piece) → weigh f (entered_all ps) ≤ charge g ps
all_within f g k [] = omega arith
all_within f g k (p ∷ ps) = omega (arith, k p, all_within f g k ps, weigh_append f (entered p) (entered_all ps))

-- ── the trie of a log ──

within_nodes : (d : ℕ) (ps : List Piece) → nodes (root (build d (entered_all ps))) ≤ 1 + charge node_charge ps
within_nodes d ps = omega (arith, nodes_build d (entered_all ps), all_within long node_charge entered_long ps)

within_entries : (d : ℕ) (ps : List Piece) → entries (root (build d (entered_all ps))) ≤ charge entry_charge ps
within_entries d ps = omega (arith, entries_build d (entered_all ps), all_within places entry_charge entered_places ps)

-- at most the nodes charged
pub trie_of_nodes : (ps : List Piece) → nodes (trie_of ps) ≤ 1 + charge node_charge ps
trie_of_nodes [] = omega arith
trie_of_nodes (p ∷ ps) = within_nodes 16 (p ∷ ps)

-- at most the entries charged
pub trie_of_entries : (ps : List Piece) → entries (trie_of ps) ≤ charge entry_charge ps
trie_of_entries [] = omega arith
trie_of_entries (p ∷ ps) = within_entries 16 (p ∷ ps)
