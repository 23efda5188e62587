-- The turns of a table: what holds between them, and what is asked of each. Assumes nothing.
use Prim.Native.Nat.{ℕ, suc, ◌+◌, ◌-◌, ◌*◌, ◌≤◌, ◌<◌}
use native.Mathlib.Omega.{arith}
use mathlib.Core.Path.{◌≡◌, sym, ap, subst, ◌∙◌}
use mathlib.Core.Bool.{Bool, true, false}
use mathlib.Core.Logic.{◌⊎◌, inl, inr}
use mathlib.Core.List.{List, Memᴰ as Mem}
use lib.ListN.{length, get_or, take}
use lib.Seq.{length-sets}
use lib.Dec.{eqb}
use Rattle.std.proofs.lemmas.Bool.{cases_lt}
use Rattle.words.specs.Words.{bytes64}
use Rattle.words.specs.Holding.{Holds}
use Rattle.words.proofs.Parts.{get_or_sets_out, length_bytes64}
use Rattle.words.proofs.Holding.{holds_sets}
use Rattle.definitions.proofs.Views.{Eq, eq}
use Rattle.trie.specs.Build.{Rising}
use Rattle.tails.specs.Tails.{Tail}
use Rattle.tails.specs.Groups.{Group, groups, bytes_of, Different}
use Rattle.kinds.specs.Kinds.{kind_number, kind_of}
use Rattle.image_format.specs.Image.{Child, nodes_in, entries_in}
use Rattle.kinds.proofs.KindRule.{kind_one, kind_two, kind_three}
use Rattle.tails.specs.Runs.{Run}
use Rattle.tails.specs.Weights.{group_weights}
use Rattle.tail_words.specs.Tail.{tail_in, tails_in}
use Rattle.tail_groups.specs.Found.{no_group, Grouped}
use Rattle.tail_groups.specs.Ranks.{Apart, with_rank, firsts}
use Rattle.tail_groups.proofs.Memory.{tails_ext, tails_mem, held_ext}
use Rattle.tail_groups.proofs.Buffer.{grouped_memory}
use Rattle.tail_groups.proofs.Arrival.{get_or_in, arrived, with_rank_found, arrived_place}
use Rattle.tail_groups.specs.declared.Grouping.{Grouping}
use Rattle.std.specs.Prelude.{Option, Some}
use Rattle.list_writer.specs.declared.End.{End}
use Rattle.slot_writer.specs.declared.Table.{Table}
use Rattle.single_writer.specs.Kids.{kids, sizes}
use Rattle.slot_writer.specs.Turns.{Opened, groups_in, group_in, TurnAsked, Picked}
use Rattle.single_writer.specs.Nodes.{child_node, TableAsked}
use Rattle.single_writer.proofs.Places.{written_order, order_three, order_other, order_length, place_of, cost, costs, costs_are, costs_order, costs_more, costs_left}
use Rattle.node_writer.proofs.SparseTable.{Sparse}
use Rattle.node_writer.proofs.DenseTable.{Dense}

-- ── a table that is begun ──

-- what is asked stays where memory from the work area on stays
module _ {s : List ℕ} (s₁ : List ℕ) {work lo hi d n : ℕ} {e : End} {gr : Grouping} {left : ℕ} (q : TableAsked s work lo hi d n e gr left)
    (long : length s₁ ≡ length s) (same : (k : ℕ) → work ≤ k → get_or s₁ k 0 ≡ get_or s k 0) where
  pub later_tails : tails_in s₁ work lo hi ≡ tails_in s work lo hi
  later_tails = tails_ext s s₁ work lo hi (λ k a b. same k (omega arith))

  pub later_groups : groups_in s₁ work lo hi d ≡ groups_in s work lo hi d
  later_groups = ap (groups d) later_tails

  pub asked_later : TableAsked s₁ work lo hi d n e gr left
  asked_later = record {
    order = q.order;
    grouped = grouped_memory s₁ q.grouped (λ k a b. same k (omega arith));
    held = held_ext s s₁ work lo hi (λ k a b. same k (omega arith)) q.held;
    memory = omega (arith, q.memory);
    different = subst Different (sym later_groups) q.different;
    rising = subst (λ (gs : List Group). Rising (bytes_of gs)) (sym later_groups) q.rising;
    small = subst (λ (gs : List Group). (g : Group) → Mem g gs → g.byte < 256) (sym later_groups) q.small;
    runs = subst (λ (gs : List Group). (g : Group) → Mem g gs → Run (suc d) g.tails) (sym later_groups) q.runs;
    apart = subst Apart (sym later_tails) q.apart;
    depth = q.depth;
    from = q.from;
    counted_nodes = q.counted_nodes;
    counted = q.counted;
    room = subst (λ (gs : List Group). e.at + 39 + 64 * nodes_in (kids (child_node left d) gs) + 24 * group_weights (suc d) gs ≤ work) (sym later_groups) q.room;
  }

-- a table of n groups, its count written
pub record TableOpen (s : List ℕ) (work lo hi d n : ℕ) (t : Table) (e : End) (gr : Grouping) (left : ℕ) : Type 0 where
  pub asked : TableAsked s work lo hi d n e gr left
  pub kind : kind_number t.kind ≡ kind_of n
  pub dense : kind_of n ≡ 1 → (t.base ≡ e.at) × (t.start ≡ e.at + 2048) × (t.turns ≡ 256)
  pub sparse : ¬ (kind_of n ≡ 1) → (t.base ≡ e.at + 8) × (t.start ≡ e.at + 8 + n * 9) × (t.turns ≡ n) × Holds s e.at (bytes64 n)

-- the groups in the order in which their children are written, and those children
abbrev pub in_order : List ℕ → ℕ → ℕ → ℕ → ℕ → ℕ → List Group
in_order s work lo hi d n = written_order (kind_of n) (groups_in s work lo hi d)

abbrev pub kids_in : List ℕ → ℕ → ℕ → ℕ → ℕ → ℕ → ℕ → List Child
kids_in s work lo hi d n left = kids (child_node left d) (in_order s work lo hi d n)

module _ {s : List ℕ} {work lo hi d n : ℕ} {e : End} {gr : Grouping} {left : ℕ} (q : TableAsked s work lo hi d n e gr left) where
  -- how many groups there are
  pub asked_count : length (in_order s work lo hi d n) ≡ n
  asked_count = order_length (kind_of n) (groups_in s work lo hi d) ∙ sym q.grouped.count

  pub asked_costs : costs (child_node left d) (suc d) (in_order s work lo hi d n) ≡ 64 * nodes_in (kids (child_node left d) (groups_in s work lo hi d)) + 24 * group_weights (suc d) (groups_in s work lo hi d)
  asked_costs = costs_order (child_node left d) (suc d) (kind_of n) (groups_in s work lo hi d) ∙ costs_are (child_node left d) (suc d) (groups_in s work lo hi d)

  pub asked_first : (n ≤ 256) × (e.at + 8 + 64 * n ≤ length s)
  asked_first =
      let c : costs (child_node left d) (suc d) (take 0 (in_order s work lo hi d n)) + 64 * (length (in_order s work lo hi d n) - 0) ≤ costs (child_node left d) (suc d) (in_order s work lo hi d n) =
      costs_left (child_node left d) (suc d) (in_order s work lo hi d n) 0 (omega arith) in
      (q.grouped.few, omega (arith, c, asked_count, asked_costs, q.room, q.memory))

  -- where there are groups, there are levels left
  pub asked_deep : 0 < n → d < 16
  asked_deep h =
      let x = q.grouped.each 0 h in
      let m = tails_mem s work (get_or gr.starts 0 0) (get_or gr.starts 1 0) (get_or gr.starts 0 0) (omega arith) x.some in
      let m' : Mem (tail_in s work (get_or gr.starts 0 0)) (group_in s work lo hi d 0).tails = subst (λ (ts : List Tail). Mem (tail_in s work (get_or gr.starts 0 0)) ts) x.tails m in
      let l = (q.runs (group_in s work lo hi d 0) (get_or_in (groups_in s work lo hi d) 0 (omega (arith, q.grouped.count)))).long (tail_in s work (get_or gr.starts 0 0)) m' in
      let v = (q.held.each (get_or gr.starts 0 0) x.from (omega (arith, x.some, x.upto))).tail.short in
      omega arith

pub kind_large : (n : ℕ) → kind_of n ≡ 1 → 97 ≤ n
kind_large n e = go (cases_lt 8 n) (cases_lt 96 n)
  where
    go : (8 < n) ⊎ (n ≤ 8) → (96 < n) ⊎ (n ≤ 96) → 97 ≤ n
    go (inr x) y = absurd (omega (arith, kind_three n x))
    go (inl x) (inr y) = absurd (omega (arith, kind_two n x y))
    go (inl x) (inl y) = y

pub kind_middle : (n : ℕ) → n ≤ 256 → ¬ (kind_of n ≡ 1) → ¬ (kind_of n ≡ 3) → kind_of n ≡ 2
kind_middle n h a b = go (cases_lt 8 n) (cases_lt 96 n)
  where
    go : (8 < n) ⊎ (n ≤ 8) → (96 < n) ⊎ (n ≤ 96) → kind_of n ≡ 2
    go (inr x) y = absurd (b (kind_three n x))
    go (inl x) (inr y) = kind_two n x y
    go (inl x) (inl y) = absurd (a (kind_one n y h))

pub opened : {s : List ℕ} (s₁ : List ℕ) {work lo hi d n : ℕ} {e : End} {gr : Grouping} {left : ℕ} (t : Table) → TableAsked s work lo hi d n e gr left → Opened s s₁ e.at n t
    → (length s₁ ≡ length s) × ((k : ℕ) → (k < e.at) ⊎ (work ≤ k) → get_or s₁ k 0 ≡ get_or s k 0) × TableOpen s₁ work lo hi d n t e gr left
opened {s} s₁ {work} {lo} {hi} {d} {n} {e} {gr} {left} t q o = (
  long,
  same,
  record {
    asked = asked_later s₁ q long (λ k h. same k (inr h));
    kind = o.kind;
    dense = λ h. ((o.dense h).0, (o.dense h).1, (o.dense h).2);
    sparse = λ h. ((o.sparse h).0, (o.sparse h).1, (o.sparse h).2, subst (λ (x : List ℕ). Holds x e.at (bytes64 n)) (sym (o.sparse h).3) (holds_sets (bytes64 n) s e.at (omega (arith, length_bytes64 n, q.room, q.memory))));
  },
)
  where
    long : length s₁ ≡ length s
    long = go (eqb (kind_of n) 1) (eq (kind_of n) 1)
      where
        go : (b : Bool) → Eq b (kind_of n) 1 → length s₁ ≡ length s
        go true h = ap length (o.dense h).3
        go false h = ap length (o.sparse h).3 ∙ length-sets s e.at (bytes64 n)

    same : (k : ℕ) → (k < e.at) ⊎ (work ≤ k) → get_or s₁ k 0 ≡ get_or s k 0
    same k x = go (eqb (kind_of n) 1) (eq (kind_of n) 1) x
      where
        go : (b : Bool) → Eq b (kind_of n) 1 → (k < e.at) ⊎ (work ≤ k) → get_or s₁ k 0 ≡ get_or s k 0
        go true h x = ap (λ (l : List ℕ). get_or l k 0) (o.dense h).3
        go false h (inl a) = ap (λ (l : List ℕ). get_or l k 0) (o.sparse h).3 ∙ get_or_sets_out (bytes64 n) s e.at k (inl a)
        go false h (inr a) = ap (λ (l : List ℕ). get_or l k 0) (o.sparse h).3 ∙ get_or_sets_out (bytes64 n) s e.at k (inr (omega (arith, length_bytes64 n, q.room)))

-- ── between two turns ──

-- j turns are done, and met children written; the image ends at end
pub record OnTurns (s₀ s : List ℕ) (work lo hi d n : ℕ) (t : Table) (end₀ end : End) (left j met : ℕ) : Type 0 where
  pub upto : j ≤ t.turns
  pub met_upto : met ≤ n
  pub long : length s ≡ length s₀
  pub before : (k : ℕ) → k < t.base → get_or s k 0 ≡ get_or s₀ k 0
  pub behind : (k : ℕ) → work ≤ k → get_or s k 0 ≡ get_or s₀ k 0
  pub at : end.at ≡ t.start + j + sizes (take met (kids_in s₀ work lo hi d n left))
  pub nodes : end.nodes ≡ end₀.nodes + nodes_in (take met (kids_in s₀ work lo hi d n left))
  pub entries : end.entries ≡ end₀.entries + entries_in (take met (kids_in s₀ work lo hi d n left))
  pub counted_nodes : end.nodes ≤ end.at
  pub counted : end.entries ≤ end.at
  pub lean : sizes (take met (kids_in s₀ work lo hi d n left)) + 31 * met ≤ costs (child_node left d) (suc d) (take met (in_order s₀ work lo hi d n))
  pub sparse : ¬ (kind_of n ≡ 1) → (met ≡ j) × Sparse t.base t.start (t.start - 64) (kids_in s₀ work lo hi d n left) (place_of (kind_of n) (groups_in s₀ work lo hi d)) s j
  pub dense : kind_of n ≡ 1 → Dense t.base t.start (t.start - 64) (kids_in s₀ work lo hi d n left) s j met

-- the end where the children begin
abbrev pub first_end : Table → End → End
first_end t e = record { at = t.start; nodes = e.nodes; entries = e.entries }

module _ {s₀ : List ℕ} {work lo hi d n : ℕ} {t : Table} {e : End} {gr : Grouping} {left : ℕ} (o : TableOpen s₀ work lo hi d n t e gr left) where
  -- where the table and its children lie, by the kind
  pub record Where : Type 0 where
    pub base : e.at ≤ t.base
    pub start : t.base ≤ t.start

  pub where_is : Where
  where_is = go (eqb (kind_of n) 1) (eq (kind_of n) 1)
    where
      go : (b : Bool) → Eq b (kind_of n) 1 → Where
      go true h = record { base = omega (arith, (o.dense h).0); start = omega (arith, (o.dense h).0, (o.dense h).1) }
      go false h = record { base = omega (arith, (o.sparse h).0); start = omega (arith, (o.sparse h).0, (o.sparse h).1) }

  module _ {s : List ℕ} {end : End} {j met : ℕ} (w : OnTurns s₀ s work lo hi d n t (first_end t e) end left j met) where
    -- there is room for the flag of the turn
    pub flag_room : j < t.turns → end.at + 1 ≤ work
    flag_room l = go (eqb (kind_of n) 1) (eq (kind_of n) 1)
      where
        left_over : costs (child_node left d) (suc d) (take met (in_order s₀ work lo hi d n)) + 64 * (length (in_order s₀ work lo hi d n) - met) ≤ costs (child_node left d) (suc d) (in_order s₀ work lo hi d n)
        left_over = costs_left (child_node left d) (suc d) (in_order s₀ work lo hi d n) met (omega (arith, asked_count o.asked, w.met_upto))

        go : (b : Bool) → Eq b (kind_of n) 1 → end.at + 1 ≤ work
        go true h =
            omega (arith, w.at, w.lean, w.met_upto, left_over, asked_count o.asked, asked_costs o.asked, o.asked.room, (o.dense h).1, (o.dense h).2, kind_large n h)
        go false h =
            omega (arith, w.at, w.lean, w.met_upto, left_over, asked_count o.asked, asked_costs o.asked, o.asked.room, (o.sparse h).1, (o.sparse h).2, (w.sparse h).0)

    -- and for the node of the next child
    pub node_room : j < t.turns → met < n → end.at + 1 + cost (child_node left d) (suc d) (get_or (in_order s₀ work lo hi d n) met no_group) ≤ work
    node_room l m = go (eqb (kind_of n) 1) (eq (kind_of n) 1)
      where
        inside : met < length (in_order s₀ work lo hi d n)
        inside = omega (arith, asked_count o.asked)

        more : costs (child_node left d) (suc d) (take (suc met) (in_order s₀ work lo hi d n)) ≡ costs (child_node left d) (suc d) (take met (in_order s₀ work lo hi d n)) + cost (child_node left d) (suc d) (get_or (in_order s₀ work lo hi d n) met no_group)
        more = costs_more (child_node left d) (suc d) (in_order s₀ work lo hi d n) met inside

        left_over : costs (child_node left d) (suc d) (take (suc met) (in_order s₀ work lo hi d n)) + 64 * (length (in_order s₀ work lo hi d n) - suc met) ≤ costs (child_node left d) (suc d) (in_order s₀ work lo hi d n)
        left_over = costs_left (child_node left d) (suc d) (in_order s₀ work lo hi d n) (suc met) inside

        go : (b : Bool) → Eq b (kind_of n) 1 → end.at + 1 + cost (child_node left d) (suc d) (get_or (in_order s₀ work lo hi d n) met no_group) ≤ work
        go true h =
            omega (arith, w.at, w.lean, more, left_over, asked_count o.asked, asked_costs o.asked, o.asked.room, (o.dense h).1, (o.dense h).2, kind_large n h)
        go false h =
            omega (arith, w.at, w.lean, more, left_over, asked_count o.asked, asked_costs o.asked, o.asked.room, (o.sparse h).1, (o.sparse h).2, (w.sparse h).0)

    some : j < t.turns → 0 < n
    some l = go (eqb (kind_of n) 1) (eq (kind_of n) 1)
      where
        go : (b : Bool) → Eq b (kind_of n) 1 → 0 < n
        go true h = omega (arith, kind_large n h)
        go false h = omega (arith, (o.sparse h).2)

    pub now_asked : TableAsked s work lo hi d n e gr left
    now_asked = asked_later s o.asked w.long w.behind

    pub now_groups : groups_in s work lo hi d ≡ groups_in s₀ work lo hi d
    now_groups = later_groups s o.asked w.long w.behind

    pub now_grouped : Grouped s work lo hi d gr n
    now_grouped = now_asked.grouped

    turn_asked : j < t.turns → TurnAsked s work lo hi d t n gr j met
    turn_asked l = record {
      known = record {
        grouped = now_grouped;
        held = now_asked.held;
        memory = now_asked.memory;
        depth = asked_deep o.asked (some l);
        different = now_asked.different;
      };
      kind = o.kind;
      turn = l;
      dense = λ h. ((o.dense h).2, omega (arith, (o.dense h).0, (o.dense h).1));
      sparse = λ h. ((o.sparse h).2, omega (arith, (o.sparse h).0, (o.sparse h).1));
    }

    -- what a turn asks
    pub turn_called : j < t.turns → TurnAsked s work lo hi d t n gr j met × (t.start + j ≤ end.at) × (end.at + 1 ≤ length s) × (64 ≤ end.at)
    turn_called l = (turn_asked l, omega (arith, w.at), omega (arith, flag_room l, now_asked.memory), omega (arith, w.at, where_is.base, where_is.start, o.asked.from))

    pub levels : j < t.turns → d < 16
    levels l = asked_deep o.asked (some l)

    -- the group of the turn is the next in order
    pub next_group : {r : Option ℕ} {g : ℕ} → j < t.turns → r ≡ Some g → Picked s work lo hi d t n j met r
        → (met < n) × (get_or (groups_in s₀ work lo hi d) g no_group ≡ get_or (in_order s₀ work lo hi d n) met no_group)
    next_group {r} {g} l i p = go (eqb (kind_of n) 1) (eq (kind_of n) 1) (eqb (kind_of n) 3) (eq (kind_of n) 3)
      where
        go : (b : Bool) → Eq b (kind_of n) 1 → (c : Bool) → Eq c (kind_of n) 3 → (met < n) × (get_or (groups_in s₀ work lo hi d) g no_group ≡ get_or (in_order s₀ work lo hi d n) met no_group)
        go true h true k = absurd (omega arith)
        go true h false k =
            let y = p.one g i (o.kind ∙ h) in
            (omega (arith, y.0, p.inside g i), ap (λ (m : ℕ). get_or (groups_in s₀ work lo hi d) m no_group) y.0 ∙ ap (λ (l : List Group). get_or l met no_group) (sym (order_other (kind_of n) (groups_in s₀ work lo hi d) k)))
        go false h true k =
            let m = (w.sparse h).0 in
            let jn : j < length (groups_in s₀ work lo hi d) = omega (arith, (o.sparse h).2, o.asked.grouped.count) in
            let found : r ≡ Some (arrived (groups_in s₀ work lo hi d) j) =
            p.three (o.kind ∙ k) ∙ ap (λ (l : List Group). with_rank (firsts l) j) now_groups ∙ with_rank_found (groups_in s₀ work lo hi d) o.asked.different j jn in
            let f : g ≡ arrived (groups_in s₀ work lo hi d) j = cc in (
              omega (arith, m, o.asked.grouped.count),
              ap (λ (m : ℕ). get_or (groups_in s₀ work lo hi d) m no_group) f ∙ sym (arrived_place (groups_in s₀ work lo hi d) o.asked.different j jn)
                  ∙ ap (λ (l : List Group). get_or l j no_group) (sym (order_three (kind_of n) (groups_in s₀ work lo hi d) k)) ∙ ap (λ (y : ℕ). get_or (in_order s₀ work lo hi d n) y no_group) (sym m),
            )
        go false h false k =
            let two : kind_of n ≡ 2 = kind_middle n o.asked.grouped.few h k in
            let y = p.two (o.kind ∙ two) in
            let m = (w.sparse h).0 in
            let f : g ≡ j = cc in
            (omega (arith, m, (o.sparse h).2), ap (λ (m : ℕ). get_or (groups_in s₀ work lo hi d) m no_group) (f ∙ sym m) ∙ ap (λ (l : List Group). get_or l met no_group) (sym (order_other (kind_of n) (groups_in s₀ work lo hi d) k)))
