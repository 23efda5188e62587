-- One turn of a table: the state after a flag 0, what is asked for a child's node, and the state after it. Assumes nothing.
use Prim.Native.Nat.{ℕ, zero, suc, ◌+◌, ◌-◌, ◌*◌, ◌≤◌, ◌<◌}
use native.Mathlib.Numerals.{add-one}
use native.Mathlib.Omega.{arith}
use mathlib.Core.Path.{◌≡◌, refl, sym, ap, subst, ◌∙◌}
use mathlib.Core.Bool.{Bool, true, false}
use mathlib.Core.Logic.{◌⊎◌, inl, inr}
use mathlib.Core.List.{List, [], ◌∷◌, ◌++◌}
use lib.ListN.{length, get_or, take, drop, set, length-set, length-take}
use lib.Seq.{sets, length-sets, get_or-set_other, take-suc}
use lib.Dec.{eqb}
use Rattle.words.specs.Words.{bytes64}
use Rattle.words.specs.Holding.{Holds}
use Rattle.words.proofs.Parts.{get_or_sets_out, length_bytes64}
use Rattle.definitions.proofs.Views.{Eq, eq}
use Rattle.trie.specs.Trie.{Node, forest_nodes}
use Rattle.tails.specs.Groups.{Group, group_node}
use Rattle.kinds.specs.Kinds.{kind_of}
use Rattle.image_format.specs.Image.{Child, children_size, nodes_in, entries_in, slots_size}
use Rattle.tails.specs.Runs.{Run}
use Rattle.tails.specs.Weights.{weights}
use Rattle.tail_words.specs.Tail.{tails_in}
use Rattle.tail_groups.specs.Found.{no_group}
use Rattle.tail_groups.specs.Ranks.{Apart, rank_of, firsts}
use Rattle.tail_groups.proofs.Memory.{tails_ext, held_part, held_ext}
use Rattle.tail_groups.proofs.Arrival.{get_or_in, rank_inside}
use Rattle.tail_groups.proofs.Distinct.{apart_part}
use Rattle.list_writer.specs.declared.End.{End}
use Rattle.slot_writer.specs.declared.Table.{Table}
use Rattle.slot_writer.specs.declared.Turn.{Turn}
use Rattle.tail_groups.specs.declared.Span.{Span}
use Rattle.tail_groups.specs.declared.Grouping.{Grouping}
use Rattle.std.specs.Prelude.{Some, None}
use Rattle.single_writer.specs.Kids.{kid, kids, sizes, no_child}
use Rattle.slot_writer.specs.Turns.{groups_in, group_in, group_bytes, GroupEntry, Turned}
use Rattle.single_writer.specs.Nodes.{child_node, node_of, Stands, SpanWritten, NodeAsked}
use Rattle.single_writer.proofs.Sized.{Sized}
use Rattle.single_writer.proofs.Orders.{Climbs, get_or_kids, kid_byte, length_kids}
use Rattle.single_writer.proofs.Places.{kid_nodes, kid_entries, kid_size, kid_bytes, kids_sized, rising_climbs, order_other, place_of, place_inside, place_apart, cost, costs, costs_more}
use Rattle.node_writer.proofs.SparseTable.{entry_bytes, Sparse, sparse_start, sparse_child}
use Rattle.node_writer.proofs.DenseTable.{Dense, dense_start, dense_none, dense_child, sizes_snoc}
use Rattle.node_writer.proofs.TableTurns.{TableOpen, in_order, kids_in, asked_count, OnTurns, first_end, where_is, flag_room, node_room, now_asked, now_groups, now_grouped, levels, next_group}

-- ── sums ──

nodes_snoc : (xs : List Child) (k : Child) → nodes_in (xs ++ (k ∷ [])) ≡ nodes_in xs + k.nodes
unfolding nodes_in
nodes_snoc [] k = omega arith
nodes_snoc (x ∷ xs) k = omega (arith, nodes_snoc xs k)

entries_snoc : (xs : List Child) (k : Child) → entries_in (xs ++ (k ∷ [])) ≡ entries_in xs + k.entries
unfolding entries_in
entries_snoc [] k = omega arith
entries_snoc (x ∷ xs) k = omega (arith, entries_snoc xs k)

pub size_sum : (ks : List Child) → children_size ks ≡ length ks + sizes ks
unfolding children_size
size_sum [] = refl
size_sum (k ∷ ks) = omega (arith, size_sum ks)

climbs_skip : (ks : List Child) (met j : ℕ) → Climbs j (drop met ks) → (met < length ks → ¬ ((get_or ks met no_child).byte ≡ j)) → Climbs (j + 1) (drop met ks)
climbs_skip [] zero j c h = tt
climbs_skip [] (suc met) j c h = tt
climbs_skip (k ∷ ks) zero j c h =
    let ne = h (omega arith) in
    (omega (arith, c.0, ne), c.1, c.2)
climbs_skip (k ∷ ks) (suc met) j c h = climbs_skip ks met j c (λ l. h (omega arith))

-- a part and one byte written: the rest is as it was
flag_same : (s s₁ : List ℕ) (p at v : ℕ) (bs : List ℕ) → s₁ ≡ set (sets s p bs) at v → (k : ℕ) → ¬ (k ≡ at) → (k < p) ⊎ (p + length bs ≤ k) → get_or s₁ k 0 ≡ get_or s k 0
flag_same s s₁ p at v bs e k n o = ap (λ (x : List ℕ). get_or x k 0) e ∙ get_or-set_other (sets s p bs) at k v 0 n ∙ get_or_sets_out bs s p k o

flag_long : (s s₁ : List ℕ) (p at v : ℕ) (bs : List ℕ) → s₁ ≡ set (sets s p bs) at v → length s₁ ≡ length s
flag_long s s₁ p at v bs e = ap length e ∙ length-set (sets s p bs) at v ∙ length-sets s p bs

-- ── the start ──

module _ {s₀ : List ℕ} {work lo hi d n : ℕ} {t : Table} {e : End} {gr : Grouping} {left : ℕ} (o : TableOpen s₀ work lo hi d n t e gr left) where
  all_climb : kind_of n ≡ 1 → Climbs 0 (kids_in s₀ work lo hi d n left)
  all_climb h =
      let ne : ¬ (kind_of n ≡ 3) = λ k. absurd (omega arith) in
      subst (λ (gs : List Group). Climbs 0 (kids (child_node left d) gs)) (sym (order_other (kind_of n) (groups_in s₀ work lo hi d) ne))
      (rising_climbs (child_node left d) (groups_in s₀ work lo hi d) 0 o.asked.rising (λ g m. (omega arith, o.asked.small g m)))

  pub turns_start : OnTurns s₀ s₀ work lo hi d n t (first_end t e) (first_end t e) left 0 0
  unfolding nodes_in entries_in
  turns_start =
      let x = where_is o in
      record {
        upto = omega arith;
        met_upto = omega arith;
        long = refl;
        before = λ k h. refl;
        behind = λ k h. refl;
        at = omega arith;
        nodes = omega arith;
        entries = omega arith;
        counted_nodes = omega (arith, x.base, x.start, o.asked.counted_nodes);
        counted = omega (arith, x.base, x.start, o.asked.counted);
        lean = omega arith;
        sparse = λ h. (refl, sparse_start t.base t.start (t.start - 64) (kids_in s₀ work lo hi d n left) (place_of (kind_of n) (groups_in s₀ work lo hi d)) s₀);
        dense = λ h. dense_start t.base t.start (t.start - 64) (kids_in s₀ work lo hi d n left) s₀ (all_climb h);
      }

  pub kids_length : length (kids_in s₀ work lo hi d n left) ≡ n
  kids_length = length_kids (child_node left d) (in_order s₀ work lo hi d n) ∙ asked_count o.asked

  sized : Sized (kids_in s₀ work lo hi d n left)
  sized = kids_sized (child_node left d) (in_order s₀ work lo hi d n)

  module _ {s : List ℕ} {end : End} {j met : ℕ} (w : OnTurns s₀ s work lo hi d n t (first_end t e) end left j met) (l : j < t.turns)
      {s₁ : List ℕ} {r : Turn} (tr : Turned s s₁ work lo hi d t n j met end r) where
    start_from : 64 ≤ t.start
    start_from =
        let x = where_is o in
        omega (arith, x.base, x.start, o.asked.from)

    -- a turn writes into the table and a flag
    record Frame : Type 0 where
      long : length s₁ ≡ length s
      same : (k : ℕ) → (k < t.base) ⊎ (work ≤ k) → get_or s₁ k 0 ≡ get_or s k 0

    slot_frame : (v : ℕ) → kind_of n ≡ 1 → s₁ ≡ set (sets s (t.base + j * 8) (bytes64 (end.at - 64))) end.at v → Frame
    slot_frame v h q =
        let z = length_bytes64 (end.at - 64) in
        let room = flag_room o w l in
        let inside : t.base + j * 8 + 8 ≤ t.start = omega (arith, (o.dense h).0, (o.dense h).1, (o.dense h).2) in
        record { long = flag_long s s₁ (t.base + j * 8) end.at v (bytes64 (end.at - 64)) q; same = λ k x. go k x z room inside }
      where
        go : (k : ℕ) → (k < t.base) ⊎ (work ≤ k) → length (bytes64 (end.at - 64)) ≡ 8 → end.at + 1 ≤ work → t.base + j * 8 + 8 ≤ t.start → get_or s₁ k 0 ≡ get_or s k 0
        go k (inl a) z room i = flag_same s s₁ (t.base + j * 8) end.at v (bytes64 (end.at - 64)) q k (λ e. absurd (omega (arith, w.at))) (inl (omega arith))
        go k (inr a) z room i = flag_same s s₁ (t.base + j * 8) end.at v (bytes64 (end.at - 64)) q k (λ e. absurd (omega arith)) (inr (omega (arith, w.at)))

    entry_frame : (g : ℕ) → g < n → ¬ (kind_of n ≡ 1) → GroupEntry s s₁ work lo hi d t.base g end.at → Frame
    entry_frame g i h q =
        let p = rank_of (group_in s work lo hi d g).first (firsts (groups_in s work lo hi d)) in
        let bs = group_bytes (group_in s work lo hi d g) (end.at - 64) in
        let z : length (group_bytes (group_in s work lo hi d g) (end.at - 64)) ≡ 9 = omega (arith, length_bytes64 (end.at - 64)) in
        let inside : rank_of (group_in s work lo hi d g).first (firsts (groups_in s work lo hi d)) < n =
        omega (arith, rank_inside (groups_in s work lo hi d) (now_asked o w).different g (omega (arith, (now_grouped o w).count)), (now_grouped o w).count) in
        record { long = flag_long s s₁ (t.base + p * 9) end.at 1 bs q.is; same = λ k x. go k x z inside (flag_room o w l) }
      where
        go : (k : ℕ) → (k < t.base) ⊎ (work ≤ k) → length (group_bytes (group_in s work lo hi d g) (end.at - 64)) ≡ 9
            → rank_of (group_in s work lo hi d g).first (firsts (groups_in s work lo hi d)) < n → end.at + 1 ≤ work → get_or s₁ k 0 ≡ get_or s k 0
        go k (inl a) z i room =
            flag_same s s₁ (t.base + rank_of (group_in s work lo hi d g).first (firsts (groups_in s work lo hi d)) * 9) end.at 1 (group_bytes (group_in s work lo hi d g) (end.at - 64)) q.is k
            (λ e. absurd (omega (arith, w.at, (o.sparse h).0, (o.sparse h).1))) (inl (omega arith))
        go k (inr a) z i room =
            flag_same s s₁ (t.base + rank_of (group_in s work lo hi d g).first (firsts (groups_in s work lo hi d)) * 9) end.at 1 (group_bytes (group_in s work lo hi d g) (end.at - 64)) q.is k
            (λ e. absurd (omega arith)) (inr (omega (arith, w.at, (o.sparse h).0, (o.sparse h).1)))

    -- ── a flag 0 ──

    -- the offset of the flag
    flag_offset : kind_of n ≡ 1 → end.at - 64 ≡ t.start - 64 + slots_size j 0 (kids_in s₀ work lo hi d n left)
    flag_offset h = omega (arith, w.at, (w.dense h).size, start_from)

    flag_at : kind_of n ≡ 1 → end.at ≡ t.start + slots_size j 0 (kids_in s₀ work lo hi d n left)
    flag_at h = omega (arith, w.at, (w.dense h).size)

    pub none_turn : r.group ≡ None → OnTurns s₀ s₁ work lo hi d n t (first_end t e) r.end left (j + 1) met
    none_turn h =
        let p = tr.picked.none h in
        let k : kind_of n ≡ 1 = sym o.kind ∙ p.0 in
        let ne : ¬ (kind_of n ≡ 3) = λ x. absurd (omega arith) in
        let fr = slot_frame 0 k (tr.none h) in
        let room = flag_room o w l in
        let q : s₁ ≡ set (sets s (t.base + j * 8) (bytes64 (t.start - 64 + slots_size j 0 (kids_in s₀ work lo hi d n left)))) end.at 0 =
        tr.none h ∙ ap (λ (x : ℕ). set (sets s (t.base + j * 8) (bytes64 x)) end.at 0) (flag_offset k) in
        record {
          upto = omega arith;
          met_upto = w.met_upto;
          long = fr.long ∙ w.long;
          before = λ i a. fr.same i (inl a) ∙ w.before i a;
          behind = λ i a. fr.same i (inr a) ∙ w.behind i a;
          at = omega (arith, tr.end.0, w.at);
          nodes = tr.end.1 ∙ w.nodes;
          entries = tr.end.2 ∙ w.entries;
          counted_nodes = omega (arith, tr.end.0, tr.end.1, w.counted_nodes);
          counted = omega (arith, tr.end.0, tr.end.2, w.counted);
          lean = w.lean;
          sparse = λ x. absurd (x k);
          dense = λ x. dense_none t.base t.start (t.start - 64) (kids_in s₀ work lo hi d n left) sized (omega (arith, (o.dense k).0, (o.dense k).1)) s₁ s₁ end.at 0 (w.dense k)
              (omega (arith, (o.dense k).2)) (flag_at k) (omega (arith, room, (now_asked o w).memory)) q (λ i a. refl) refl
              (climbs_skip (kids_in s₀ work lo hi d n left) met j (w.dense k).rest (λ m y. p.1 (omega (arith, kids_length)) (byte_there ne m ∙ y)));
        }
      where
        byte_there : ¬ (kind_of n ≡ 3) → met < length (kids_in s₀ work lo hi d n left) → (group_in s work lo hi d met).byte ≡ (get_or (kids_in s₀ work lo hi d n left) met no_child).byte
        byte_there ne m =
            ap (λ (gs : List Group). (get_or gs met no_group).byte) (now_groups o w ∙ sym (order_other (kind_of n) (groups_in s₀ work lo hi d) ne))
            ∙ sym (kid_byte (child_node left d) (get_or (in_order s₀ work lo hi d n) met no_group))
            ∙ ap (λ (k : Child). k.byte) (sym (get_or_kids (child_node left d) (in_order s₀ work lo hi d n) met (omega (arith, kids_length, asked_count o.asked))))

    -- ── a child ──

    module _ {g : ℕ} (got : r.group ≡ Some g) (i : g < n) where
      -- where its tails begin and end, and the group
      abbrev A : ℕ
      A = get_or gr.starts g 0

      abbrev B : ℕ
      B = get_or gr.starts (g + 1) 0

      abbrev G : Group
      G = get_or (in_order s₀ work lo hi d n) met no_group

      met_in : met < n
      met_in = (next_group o w l got tr.picked).0

      group_is : group_in s work lo hi d g ≡ G
      group_is = ap (λ (gs : List Group). get_or gs g no_group) (now_groups o w) ∙ (next_group o w l got tr.picked).1

      child_frame : Frame
      child_frame = go (eqb (kind_of n) 1) (eq (kind_of n) 1)
        where
          go : (b : Bool) → Eq b (kind_of n) 1 → Frame
          go true h = slot_frame 1 h (tr.dense g got (o.kind ∙ h))
          go false h = entry_frame g i h (tr.sparse g got (λ x. h (sym o.kind ∙ x)))

      child_tails : tails_in s₁ work A B ≡ G.tails
      child_tails =
          tails_ext s s₁ work A B (λ k a b. child_frame.same k (inr (omega arith)))
          ∙ ((now_grouped o w).each g i).tails ∙ ap (λ (g : Group). g.tails) group_is

      child_is : node_of s₁ work A B (d + 1) (left - 1) ≡ child_node left d G.tails
      child_is = ap (λ (x : ℕ). group_node (left - 1) x (tails_in s₁ work A B)) (add-one d) ∙ ap (group_node (left - 1) (suc d)) child_tails

      weights_are : weights (d + 1) (tails_in s₁ work A B) ≡ weights (suc d) G.tails
      weights_are = ap (λ (x : ℕ). weights x (tails_in s₁ work A B)) (add-one d) ∙ ap (weights (suc d)) child_tails

      nodes_are : 1 + forest_nodes (node_of s₁ work A B (d + 1) (left - 1)).children ≡ (kid (child_node left d) G).nodes
      nodes_are = ap (λ (x : Node). 1 + forest_nodes x.children) child_is ∙ sym (kid_nodes (child_node left d) G)

      below_asked : NodeAsked s₁ work A B (d + 1) r.end (left - 1)
      below_asked =
          let x = (now_grouped o w).each g i in
          let a = now_asked o w in
          record {
            span = record {
              held = held_ext s s₁ work A B (λ k y z. child_frame.same k (inr (omega arith))) (held_part A B a.held x.from x.upto);
              memory = omega (arith, x.upto, a.memory, child_frame.long);
              run = rw (add-one d, child_tails) (subst (λ (g : Group). Run (suc d) g.tails) group_is (a.runs (group_in s work lo hi d g) (get_or_in (groups_in s work lo hi d) g (omega (arith, (now_grouped o w).count)))));
              depth = omega (arith, o.asked.depth, levels o w l);
              from = omega (arith, tr.end.0, w.at, start_from);
              counted_nodes = omega (arith, tr.end.0, tr.end.1, w.counted_nodes);
              counted = omega (arith, tr.end.0, tr.end.2, w.counted);
              room = omega (arith, node_room o w l met_in, nodes_are, weights_are, tr.end.0);
            };
            order = omega (arith, x.some);
            apart = subst Apart (sym (tails_ext s s₁ work A B (λ k y z. child_frame.same k (inr (omega arith))))) (apart_part s work lo hi A B a.apart x.from (omega (arith, x.some)) x.upto);
          }

      -- ── the child is written ──

      module _ (p : Span) (is : p ≡ record { work = work; lo = A; hi = B; depth = d + 1 }) (deep : left ≡ 16 - d) where
        down : left - 1 ≡ 16 - (d + 1)
        down = omega arith

        pub child_asked : (16 - p.depth < left) × NodeAsked s₁ p.work p.lo p.hi p.depth r.end (16 - p.depth)
        child_asked =
            subst (λ (x : Span). (16 - x.depth < left) × NodeAsked s₁ x.work x.lo x.hi x.depth r.end (16 - x.depth)) (sym is)
            (omega (arith, levels o w l), subst (NodeAsked s₁ work A B (d + 1) r.end) down below_asked)

        pub child_written : {s₂ : List ℕ} {r₂ : End} → SpanWritten s₁ s₂ p.work p.lo p.hi p.depth r.end (16 - p.depth) r₂ → SpanWritten s₁ s₂ work A B (d + 1) r.end (left - 1) r₂
        child_written {s₂} {r₂} v =
            subst (λ (x : ℕ). SpanWritten s₁ s₂ work A B (d + 1) r.end x r₂) (sym down) (subst (λ (x : Span). SpanWritten s₁ s₂ x.work x.lo x.hi x.depth r.end (16 - x.depth) r₂) is v)

      module _ {s₂ : List ℕ} {r₂ : End} (v : SpanWritten s₁ s₂ work A B (d + 1) r.end (left - 1) r₂) where
        ks : List Child
        ks = kids_in s₀ work lo hi d n left

        K : Child
        K = kid (child_node left d) G

        in_order_in : met < length (in_order s₀ work lo hi d n)
        in_order_in = omega (arith, asked_count o.asked, met_in)

        kid_here : get_or ks met no_child ≡ K
        unfolding ks K
        kid_here = get_or_kids (child_node left d) (in_order s₀ work lo hi d n) met in_order_in

        more : take (met + 1) ks ≡ take met ks ++ (K ∷ [])
        unfolding ks
        more = ap (λ (x : ℕ). take x ks) (add-one met) ∙ take-suc ks met no_child (omega (arith, kids_length, met_in)) ∙ ap (λ (k : Child). take met ks ++ (k ∷ [])) kid_here

        nw : Stands s₁ s₂ (child_node left d G.tails) (weights (suc d) G.tails) work r.end r₂
        nw = subst (λ (y : Node). Stands s₁ s₂ y (weights (suc d) G.tails) work r.end r₂) child_is (subst (λ (y : ℕ). Stands s₁ s₂ (node_of s₁ work A B (d + 1) (left - 1)) y work r.end r₂) weights_are v)

        nodes_here : r₂.nodes ≡ end.nodes + K.nodes
        unfolding K
        nodes_here = omega (arith, nw.nodes, tr.end.1, kid_nodes (child_node left d) G)

        entries_here : r₂.entries ≡ end.entries + K.entries
        unfolding K
        entries_here = omega (arith, nw.entries, tr.end.2, kid_entries (child_node left d) G)

        at_here : r₂.at ≡ end.at + 1 + K.size
        unfolding K
        at_here = omega (arith, nw.at, tr.end.0, kid_size (child_node left d) G)

        lean_here : K.size + 31 ≤ cost (child_node left d) (suc d) G
        unfolding K
        lean_here = omega (arith, nw.lean, at_here, tr.end.0, kid_nodes (child_node left d) G)

        costs_here : costs (child_node left d) (suc d) (take (met + 1) (in_order s₀ work lo hi d n)) ≡ costs (child_node left d) (suc d) (take met (in_order s₀ work lo hi d n)) + cost (child_node left d) (suc d) G
        costs_here = ap (λ (x : ℕ). costs (child_node left d) (suc d) (take x (in_order s₀ work lo hi d n))) (add-one met) ∙ costs_more (child_node left d) (suc d) (in_order s₀ work lo hi d n) met in_order_in

        -- the node's bytes where the flag stands at an offset
        node_stands : (p q : ℕ) → r.end.at ≡ p → r.end.at - 64 ≡ q → Holds s₂ p ((get_or ks met no_child).bytes q)
        unfolding K
        node_stands p q a b =
            let y : Holds s₂ r.end.at ((kid (child_node left d) G).bytes (r.end.at - 64)) = subst (λ (l : List ℕ). Holds s₂ r.end.at l) (sym (kid_bytes (child_node left d) G (r.end.at - 64))) nw.bytes in
            let z : Holds s₂ r.end.at ((get_or ks met no_child).bytes (r.end.at - 64)) = subst (λ (k : Child). Holds s₂ r.end.at (k.bytes (r.end.at - 64))) (sym kid_here) y in
            subst (λ (u : ℕ). Holds s₂ u ((get_or ks met no_child).bytes q)) a (subst (λ (v : ℕ). Holds s₂ r.end.at ((get_or ks met no_child).bytes v)) b z)

        sparse_next : (h : ¬ (kind_of n ≡ 1)) → Sparse t.base t.start (t.start - 64) (kids_in s₀ work lo hi d n left) (place_of (kind_of n) (groups_in s₀ work lo hi d)) s₂ (j + 1)
        unfolding ks K
        sparse_next h =
            let m : met ≡ j = (w.sparse h).0 in
            let jn : j < n = omega (arith, (o.sparse h).2) in
            let jk : j < length (kids_in s₀ work lo hi d n left) = omega (arith, kids_length) in
            let cs : children_size (take j (kids_in s₀ work lo hi d n left)) ≡ j + sizes (take j (kids_in s₀ work lo hi d n left)) =
            size_sum (take j (kids_in s₀ work lo hi d n left)) ∙ omega (arith, length-take j (kids_in s₀ work lo hi d n left)) in
            let at' : end.at ≡ t.start + j + sizes (take j (kids_in s₀ work lo hi d n left)) = w.at ∙ ap (λ (x : ℕ). t.start + j + sizes (take x (kids_in s₀ work lo hi d n left))) m in
            let p : end.at ≡ t.start + children_size (take j (kids_in s₀ work lo hi d n left)) = omega arith in
            let off : end.at - 64 ≡ t.start - 64 + children_size (take j (kids_in s₀ work lo hi d n left)) = omega (arith, start_from) in
            let gj : group_in s work lo hi d g ≡ get_or (in_order s₀ work lo hi d n) j no_group = group_is ∙ ap (λ (x : ℕ). get_or (in_order s₀ work lo hi d n) x no_group) m in
            let kb : (group_in s work lo hi d g).byte ≡ (get_or (kids_in s₀ work lo hi d n left) j no_child).byte =
            ap (λ (g : Group). g.byte) group_is ∙ sym (kid_byte (child_node left d) G) ∙ ap (λ (k : Child). k.byte) (sym kid_here) ∙ ap (λ (x : ℕ). (get_or (kids_in s₀ work lo hi d n left) x no_child).byte) m in
            let pl : rank_of (group_in s work lo hi d g).first (firsts (groups_in s work lo hi d)) ≡ place_of (kind_of n) (groups_in s₀ work lo hi d) j =
            ap (λ (g : Group). rank_of g.first (firsts (groups_in s work lo hi d))) gj ∙ ap (λ (gs : List Group). rank_of (get_or (in_order s₀ work lo hi d n) j no_group).first (firsts gs)) (now_groups o w) in
            let flag : s₁ ≡ set (sets s (t.base + place_of (kind_of n) (groups_in s₀ work lo hi d) j * 9) (entry_bytes (get_or (kids_in s₀ work lo hi d n left) j no_child) (t.start - 64 + children_size (take j (kids_in s₀ work lo hi d n left))))) (t.start + children_size (take j (kids_in s₀ work lo hi d n left))) 1 =
            (tr.sparse g got (λ x. h (sym o.kind ∙ x))).is
            ∙ ap (λ (x : ℕ). set (sets s (t.base + x * 9) (group_bytes (group_in s work lo hi d g) (end.at - 64))) end.at 1) pl
            ∙ ap (λ (x : ℕ). set (sets s (t.base + place_of (kind_of n) (groups_in s₀ work lo hi d) j * 9) (x ∷ bytes64 (end.at - 64))) end.at 1) kb
            ∙ ap (λ (x : ℕ). set (sets s (t.base + place_of (kind_of n) (groups_in s₀ work lo hi d) j * 9) (entry_bytes (get_or (kids_in s₀ work lo hi d n left) j no_child) x)) end.at 1) off
            ∙ ap (λ (x : ℕ). set (sets s (t.base + place_of (kind_of n) (groups_in s₀ work lo hi d) j * 9) (entry_bytes (get_or (kids_in s₀ work lo hi d n left) j no_child) (t.start - 64 + children_size (take j (kids_in s₀ work lo hi d n left))))) x 1) p in
            let count : length (groups_in s₀ work lo hi d) ≡ n = sym o.asked.grouped.count in
            let node : Holds s₂ (t.start + children_size (take j (kids_in s₀ work lo hi d n left)) + 1) ((get_or (kids_in s₀ work lo hi d n left) j no_child).bytes (t.start - 64 + children_size (take j (kids_in s₀ work lo hi d n left)) + 1)) =
            subst (λ (x : ℕ). Holds s₂ (t.start + children_size (take j (kids_in s₀ work lo hi d n left)) + 1) ((get_or (kids_in s₀ work lo hi d n left) x no_child).bytes (t.start - 64 + children_size (take j (kids_in s₀ work lo hi d n left)) + 1))) m
            (node_stands (t.start + children_size (take j (kids_in s₀ work lo hi d n left)) + 1) (t.start - 64 + children_size (take j (kids_in s₀ work lo hi d n left)) + 1) (omega (arith, tr.end.0)) (omega (arith, tr.end.0, start_from))) in
            sparse_child t.base t.start (t.start - 64) (kids_in s₀ work lo hi d n left) (place_of (kind_of n) (groups_in s₀ work lo hi d)) sized
            (omega (arith, kids_length, (o.sparse h).0, (o.sparse h).1))
            (λ x y. omega (arith, place_inside (kind_of n) (groups_in s₀ work lo hi d) o.asked.different x (omega (arith, kids_length)), kids_length))
            (λ x y a b c. place_apart (kind_of n) (groups_in s₀ work lo hi d) o.asked.different x y (omega (arith, kids_length)) (omega (arith, kids_length)) c)
            s₁ s₂ (w.sparse h).1 jk (omega (arith, flag_room o w l, (now_asked o w).memory)) flag (λ x y. nw.before x (omega (arith, tr.end.0))) node

        dense_next : (h : kind_of n ≡ 1) → Dense t.base t.start (t.start - 64) (kids_in s₀ work lo hi d n left) s₂ (j + 1) (met + 1)
        unfolding ks K
        dense_next h =
            let q : s₁ ≡ set (sets s (t.base + j * 8) (bytes64 (t.start - 64 + slots_size j 0 (kids_in s₀ work lo hi d n left)))) end.at 1 =
            tr.dense g got (o.kind ∙ h) ∙ ap (λ (x : ℕ). set (sets s (t.base + j * 8) (bytes64 x)) end.at 1) (flag_offset h) in
            let x = tr.picked.one g got (o.kind ∙ h) in
            let kb : (get_or (kids_in s₀ work lo hi d n left) met no_child).byte ≡ j =
            ap (λ (k : Child). k.byte) kid_here ∙ kid_byte (child_node left d) G ∙ ap (λ (g : Group). g.byte) (sym group_is) ∙ ap (λ (y : ℕ). (group_in s work lo hi d y).byte) x.0 ∙ x.1 in
            dense_child t.base t.start (t.start - 64) (kids_in s₀ work lo hi d n left) sized (omega (arith, (o.dense h).0, (o.dense h).1)) s₁ s₂ end.at 1 (w.dense h)
            (omega (arith, (o.dense h).2)) (flag_at h) (omega (arith, flag_room o w l, (now_asked o w).memory)) q (λ y a. nw.before y (omega (arith, tr.end.0))) refl
            (omega (arith, kids_length, met_in)) kb
            (node_stands (t.start + slots_size j 0 (kids_in s₀ work lo hi d n left) + 1) (t.start - 64 + slots_size j 0 (kids_in s₀ work lo hi d n left) + 1) (omega (arith, tr.end.0, flag_at h)) (omega (arith, tr.end.0, flag_at h, start_from)))

        pub child_turn : OnTurns s₀ s₂ work lo hi d n t (first_end t e) r₂ left (j + 1) (met + 1)
        unfolding ks
        child_turn =
            let sz : sizes (take (met + 1) (kids_in s₀ work lo hi d n left)) ≡ sizes (take met (kids_in s₀ work lo hi d n left)) + K.size = ap sizes more ∙ sizes_snoc (take met (kids_in s₀ work lo hi d n left)) K in
            let ns : nodes_in (take (met + 1) (kids_in s₀ work lo hi d n left)) ≡ nodes_in (take met (kids_in s₀ work lo hi d n left)) + K.nodes = ap nodes_in more ∙ nodes_snoc (take met (kids_in s₀ work lo hi d n left)) K in
            let es : entries_in (take (met + 1) (kids_in s₀ work lo hi d n left)) ≡ entries_in (take met (kids_in s₀ work lo hi d n left)) + K.entries = ap entries_in more ∙ entries_snoc (take met (kids_in s₀ work lo hi d n left)) K in
            let fr = child_frame in
            record {
              upto = omega arith;
              met_upto = omega (arith, met_in);
              long = nw.long ∙ fr.long ∙ w.long;
              before = λ k a. nw.before k (omega (arith, tr.end.0, w.at, (where_is o).start)) ∙ fr.same k (inl a) ∙ w.before k a;
              behind = λ k a. nw.behind k a ∙ fr.same k (inr a) ∙ w.behind k a;
              at = omega (arith, at_here, w.at, sz);
              nodes = omega (arith, nodes_here, w.nodes, ns);
              entries = omega (arith, entries_here, w.entries, es);
              counted_nodes = nw.counted_nodes;
              counted = nw.counted;
              lean = omega (arith, w.lean, lean_here, costs_here, sz);
              sparse = λ h. (ap (λ (x : ℕ). x + 1) (w.sparse h).0, sparse_next h);
              dense = dense_next;
            }
