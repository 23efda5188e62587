-- The groups of a table in the order in which their children are written, where their entries stand, and what they cost. Assumes nothing.
use Prim.Native.Nat.{ℕ, zero, suc, ◌+◌, ◌-◌, ◌*◌, ◌≤◌, ◌<◌}
use native.Mathlib.Nat.{not-suc-le-zero}
use native.Mathlib.Omega.{arith}
use mathlib.Core.Path.{◌≡◌, refl, sym, ap, ◌∙◌}
use mathlib.Core.Bool.{Bool, true, false, cond}
use mathlib.Core.List.Memᴰ.{head as here}
use mathlib.Core.List.Memᴰ.{tail as later}
use mathlib.Core.List.{List, [], ◌∷◌, ◌++◌, Memᴰ as Mem}
use lib.ListN.{length, get_or, take}
use lib.Seq.{take-suc}
use lib.Dec.{eqb, leb}
use borrow.Author.Tests.{eq-eqb, ne_eqb, le-leb, lt-leb}
use Rattle.trie.specs.Trie.{Node, entries_of, forest_nodes, forest_entries}
use Rattle.trie.specs.Build.{Rising}
use Rattle.tails.specs.Tails.{Tail}
use Rattle.tails.specs.Groups.{Group, by_arrival, kept_groups, bytes_of, Different}
use Rattle.tails.proofs.Groups.{mem_bytes}
use Rattle.tails.proofs.ByArrival.{sum, sum_either, length_either}
use Rattle.image_format.specs.Image.{Child, as_child, children_of, nodes_in, node_bytes, node_size}
use Rattle.image_format.proofs.ByByte.{total}
use Rattle.image_format.proofs.Shapes.{count_nodes, count_entries}
use Rattle.tails.specs.Weights.{weights, group_weights}
use Rattle.tail_groups.specs.Found.{no_group}
use Rattle.tail_groups.specs.Ranks.{rank_of, firsts}
use Rattle.tail_groups.proofs.Arrival.{get_or_in, arrival_rank, rank_place, rank_inside}
use Rattle.single_writer.specs.Kids.{kid, kids}
use Rattle.single_writer.proofs.Sized.{Sized, node_long, all_sized}
use Rattle.single_writer.proofs.Orders.{Climbs, Apart, total_either}

-- ── a kid ──

module _ (f : List Tail → Node) (g : Group) where
  pub kid_nodes : (kid f g).nodes ≡ 1 + forest_nodes (f g.tails).children
  unfolding as_child
  kid_nodes = omega (arith, count_nodes (f g.tails).children)

  pub kid_entries : (kid f g).entries ≡ entries_of (f g.tails).lists + forest_entries (f g.tails).children
  unfolding as_child
  kid_entries = omega (arith, count_entries (f g.tails).children)

  pub kid_size : (kid f g).size ≡ node_size (f g.tails).lists (children_of (f g.tails).children)
  unfolding as_child
  kid_size = refl

  pub kid_bytes : (at : ℕ) → (kid f g).bytes at ≡ node_bytes at (f g.tails).lists (children_of (f g.tails).children)
  unfolding as_child
  kid_bytes at = refl

pub kids_sized : (f : List Tail → Node) (gs : List Group) → Sized (kids f gs)
unfolding as_child
kids_sized f [] = tt
kids_sized f (g ∷ gs) = ((λ at. node_long at (f g.tails).lists (children_of (f g.tails).children) (all_sized (f g.tails).children)), kids_sized f gs)

-- ── rising bytes ──

pub rising_climbs : (f : List Tail → Node) (gs : List Group) (b : ℕ) → Rising (bytes_of gs) → ((g : Group) → Mem g gs → (b ≤ g.byte) × (g.byte < 256)) → Climbs b (kids f gs)
unfolding as_child
rising_climbs f [] b r h = tt
rising_climbs f (g ∷ gs) b r h =
    ((h g (here refl)).0, (h g (here refl)).1, rising_climbs f gs (g.byte + 1) r.1 (λ x m. (omega (arith, r.0 x.byte (mem_bytes gs m)), (h x (later m)).1)))

pub rising_apart : (gs : List Group) → Rising (bytes_of gs) → Apart gs
rising_apart [] r = tt
rising_apart (g ∷ gs) r = ((λ h m e. absurd (omega (arith, r.0 h.byte (mem_bytes gs m)))), rising_apart gs r.1)

-- ── the order ──

-- by arrival in kind 3, else by byte
abbrev pub written_order : ℕ → List Group → List Group
written_order kind gs = cond (eqb kind 3) (by_arrival gs) gs

pub order_three : (kind : ℕ) (gs : List Group) → kind ≡ 3 → written_order kind gs ≡ by_arrival gs
order_three kind gs e = rw (eq-eqb kind 3 e)

pub order_other : (kind : ℕ) (gs : List Group) → ¬ (kind ≡ 3) → written_order kind gs ≡ gs
order_other kind gs e = rw (ne_eqb kind 3 e)

pub order_length : (kind : ℕ) (gs : List Group) → length (written_order kind gs) ≡ length gs
order_length kind gs = length_either (eqb kind 3) gs

pub order_total : (f : List Tail → Node) (m : Child → ℕ) (kind : ℕ) (gs : List Group) → total m (kids f (written_order kind gs)) ≡ total m (kids f gs)
order_total f m kind gs = total_either f m (eqb kind 3) gs

pub kept_length : (gs : List Group) → length (kept_groups gs) ≡ length gs
kept_length gs = length_either (leb (length gs) 96) gs

pub kept_total : (f : List Tail → Node) (m : Child → ℕ) (gs : List Group) → total m (kids f (kept_groups gs)) ≡ total m (kids f gs)
kept_total f m gs = total_either f m (leb (length gs) 96) gs

pub kept_few : (gs : List Group) → length gs ≤ 96 → kept_groups gs ≡ by_arrival gs
kept_few gs h = rw (le-leb (length gs) 96 h)

pub kept_many : (gs : List Group) → 96 < length gs → kept_groups gs ≡ gs
kept_many gs h = rw (lt-leb (length gs) 96 h)

-- ── where the entries stand ──

-- the place of the child that is written as number i
abbrev pub place_of : ℕ → List Group → ℕ → ℕ
place_of kind gs i = rank_of (get_or (written_order kind gs) i no_group).first (firsts gs)

-- two groups with one arrival number are one
different_index : (gs : List Group) (i j : ℕ) → Different gs → i < length gs → j < length gs → (get_or gs i no_group).first ≡ (get_or gs j no_group).first → i ≡ j
different_index [] i j d h k e = absurd (not-suc-le-zero h)
different_index (g ∷ gs) zero zero d h k e = refl
different_index (g ∷ gs) zero (suc j) d h k e = absurd (d.0 (get_or gs j no_group) (get_or_in gs j (omega arith)) e)
different_index (g ∷ gs) (suc i) zero d h k e = absurd (d.0 (get_or gs i no_group) (get_or_in gs i (omega arith)) (sym e))
different_index (g ∷ gs) (suc i) (suc j) d h k e = ap suc (different_index gs i j d.1 (omega arith) (omega arith) e)

module _ (kind : ℕ) (gs : List Group) (d : Different gs) where
  pub place_inside : (i : ℕ) → i < length gs → place_of kind gs i < length gs
  place_inside i h = go (eqb kind 3)
    where
      go : (o : Bool) → rank_of (get_or (cond o (by_arrival gs) gs) i no_group).first (firsts gs) < length gs
      go true = omega (arith, arrival_rank gs d i h)
      go false = rank_inside gs d i h

  pub place_apart : (i j : ℕ) → i < length gs → j < length gs → place_of kind gs i ≡ place_of kind gs j → i ≡ j
  place_apart i j h k = go (eqb kind 3)
    where
      go : (o : Bool) → rank_of (get_or (cond o (by_arrival gs) gs) i no_group).first (firsts gs) ≡ rank_of (get_or (cond o (by_arrival gs) gs) j no_group).first (firsts gs) → i ≡ j
      go true e = sym (arrival_rank gs d i h) ∙ e ∙ arrival_rank gs d j k
      go false e =
          let same : get_or gs i no_group ≡ get_or gs j no_group = sym (rank_place gs d i h) ∙ ap (λ (n : ℕ). get_or (by_arrival gs) n no_group) e ∙ rank_place gs d j k in
          different_index gs i j d h k (ap (λ (g : Group). g.first) same)

-- ── what the children cost ──

module _ (f : List Tail → Node) (d : ℕ) where
  -- 64 bytes for each node, 24 for each entry, repeats kept
  abbrev pub cost : Group → ℕ
  cost g = 64 * (kid f g).nodes + 24 * weights d g.tails

  abbrev pub costs : List Group → ℕ
  costs gs = sum cost gs

  pub costs_are : (gs : List Group) → costs gs ≡ 64 * nodes_in (kids f gs) + 24 * group_weights d gs
  unfolding nodes_in
  costs_are [] = refl
  costs_are (g ∷ gs) = omega (arith, costs_are gs)

  pub costs_order : (kind : ℕ) (gs : List Group) → costs (written_order kind gs) ≡ costs gs
  costs_order kind gs = sum_either cost (eqb kind 3) gs

  costs_snoc : (gs : List Group) (g : Group) → costs (gs ++ (g ∷ [])) ≡ costs gs + cost g
  costs_snoc [] g = omega arith
  costs_snoc (h ∷ gs) g = omega (arith, costs_snoc gs g)

  -- one more
  pub costs_more : (gs : List Group) (i : ℕ) → i < length gs → costs (take (suc i) gs) ≡ costs (take i gs) + cost (get_or gs i no_group)
  costs_more gs i h = ap costs (take-suc gs i no_group h) ∙ costs_snoc (take i gs) (get_or gs i no_group)

  -- each of those that are left costs at least 64
  pub costs_left : (gs : List Group) (i : ℕ) → i ≤ length gs → costs (take i gs) + 64 * (length gs - i) ≤ costs gs
  costs_left [] i h = omega (arith, none i)
    where
      none : (i : ℕ) → costs (take i []) ≡ 0
      none zero = refl
      none (suc i) = refl
  costs_left (g ∷ gs) zero h = omega (arith, costs_left gs 0 (omega arith), kid_nodes f g)
  costs_left (g ∷ gs) (suc i) h = omega (arith, costs_left gs i (omega arith))
