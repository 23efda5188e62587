-- A table whose turns are done: its bytes, its size and its counts. Assumes nothing.
use Prim.Native.Nat.{ℕ, suc, ◌+◌, ◌-◌, ◌*◌, ◌≤◌, ◌<◌}
use native.Mathlib.Omega.{arith}
use mathlib.Core.Path.{◌≡◌, refl, sym, ap, subst, ◌∙◌}
use mathlib.Core.Bool.{Bool, true, false}
use mathlib.Core.Logic.{◌⊎◌, inl, inr}
use mathlib.Core.List.{List, [], ◌∷◌, ◌++◌}
use lib.ListN.{length, get_or, take, drop, length-drop}
use lib.Seq.{take_all}
use lib.Dec.{eqb}
use Rattle.std.proofs.lemmas.Bool.{cases_lt}
use Rattle.words.specs.Words.{bytes64}
use Rattle.words.specs.Holding.{Holds}
use Rattle.words.proofs.Parts.{length_bytes64}
use Rattle.words.proofs.Holding.{holds_at, holds_append, holds_ext}
use Rattle.definitions.proofs.Views.{Eq, eq}
use Rattle.tails.specs.Groups.{Group, by_arrival, kept_groups}
use Rattle.kinds.specs.Kinds.{kind_of}
use Rattle.image_format.specs.Image.{Child, nodes_in, entries_in, children_size, children_bytes, size_below, ascending, table_by_arrival, table_by_byte, slot_offsets, slots_bytes, slots_size, table_bytes, table_size}
use Rattle.image_format.proofs.ByByte.{total_nodes, total_entries}
use Rattle.image_format.proofs.KindOne.{offsets_length}
use Rattle.image_format.proofs.KindTwo.{offs_length}
use Rattle.image_format.proofs.KindThree.{table_length}
use Rattle.kinds.proofs.KindRule.{kind_one, kind_two, kind_three}
use Rattle.tails.specs.Weights.{group_weights}
use Rattle.tail_groups.specs.Found.{no_group}
use Rattle.tail_groups.specs.Ranks.{rank_of, firsts}
use Rattle.tail_groups.proofs.Arrival.{length_by_arrival, arrival_rank, arrived, arrived_inside, arrived_rank, arrived_place}
use Rattle.tail_groups.specs.declared.Grouping.{Grouping}
use Rattle.list_writer.specs.declared.End.{End}
use Rattle.slot_writer.specs.declared.Table.{Table}
use Rattle.single_writer.specs.Kids.{kid, kids, sizes, no_child}
use Rattle.slot_writer.specs.Turns.{Opened, groups_in}
use Rattle.single_writer.specs.Nodes.{child_node, children_in, TableAsked, TableWritten}
use Rattle.single_writer.proofs.Orders.{Climbs, get_or_kids, length_kids, ascending_climbs, ascending_by_arrival, below_climbs, below_by_arrival}
use Rattle.single_writer.proofs.Places.{rising_climbs, rising_apart, order_three, order_other, order_total, kept_length, kept_total, kept_few, kept_many, place_of, costs}
use Rattle.node_writer.proofs.SparseTable.{entry_bytes, table_three, table_two}
use Rattle.node_writer.proofs.TableTurns.{TableOpen, in_order, kids_in, asked_count, asked_costs, kind_large, opened, OnTurns, first_end, where_is, later_groups}
use Rattle.node_writer.proofs.TableTurn.{size_sum, kids_length}

-- ── the bytes, by the kind ──

module _ (kind o : ℕ) (ks : List Child) where
  pub bytes_three : kind ≡ 3 → table_bytes kind o ks ≡ bytes64 (length ks) ++ (table_by_arrival (o + 8 + length ks * 9) ks ++ children_bytes (o + 8 + length ks * 9) ks)
  unfolding table_bytes
  bytes_three e = rw e

  pub bytes_two : kind ≡ 2 → table_bytes kind o ks ≡ bytes64 (length ks) ++ (table_by_byte (o + 8 + length ks * 9) ks ks ++ children_bytes (o + 8 + length ks * 9) (ascending 256 0 ks))
  unfolding table_bytes
  bytes_two e = rw e

  pub bytes_one : kind ≡ 1 → table_bytes kind o ks ≡ slot_offsets 256 0 (o + 2048) ks ++ slots_bytes 256 0 (o + 2048) ks
  unfolding table_bytes
  bytes_one e = rw e

  pub size_three : kind ≡ 3 → table_size kind ks ≡ 8 + length ks * 9 + children_size ks
  unfolding table_size
  size_three e = rw e

  pub size_two : kind ≡ 2 → table_size kind ks ≡ 8 + length ks * 9 + children_size (ascending 256 0 ks)
  unfolding table_size
  size_two e = rw e

  pub size_one : kind ≡ 1 → table_size kind ks ≡ 2048 + slots_size 256 0 ks
  unfolding table_size
  size_one e = rw e

climbs_all : (ks : List Child) → Climbs 256 ks → length ks ≡ 0
climbs_all [] c = refl
climbs_all (k ∷ ks) c = absurd (omega (arith, c.0, c.1))

-- a table and where it ends
record Ended (s : List ℕ) (at n : ℕ) (ks : List Child) (end : ℕ) : Type 0 where
  bytes : Holds s at (table_bytes (kind_of n) (at - 64) ks)
  ends : end ≡ at + table_size (kind_of n) ks

module _ {s₀ : List ℕ} {work lo hi d n : ℕ} {t : Table} {e : End} {gr : Grouping} {left : ℕ} (o : TableOpen s₀ work lo hi d n t e gr left)
    {s : List ℕ} {end : End} {j met : ℕ} (w : OnTurns s₀ s work lo hi d n t (first_end t e) end left j met) (over : t.turns ≤ j) where
  all_met : met ≡ n
  all_met = go (eqb (kind_of n) 1) (eq (kind_of n) 1)
    where
      go : (b : Bool) → Eq b (kind_of n) 1 → met ≡ n
      go true h =
          let u : j ≡ 256 = omega (arith, w.upto, (o.dense h).2) in
          let c : Climbs 256 (drop met (kids_in s₀ work lo hi d n left)) = subst (λ (x : ℕ). Climbs x (drop met (kids_in s₀ work lo hi d n left))) u (w.dense h).rest in
          omega (arith, climbs_all (drop met (kids_in s₀ work lo hi d n left)) c, length-drop met (kids_in s₀ work lo hi d n left), kids_length o, w.met_upto)
      go false h = omega (arith, (w.sparse h).0, (o.sparse h).2, w.upto)

  all_taken : take met (kids_in s₀ work lo hi d n left) ≡ kids_in s₀ work lo hi d n left
  all_taken = take_all met (kids_in s₀ work lo hi d n left) (omega (arith, kids_length o, all_met))

  all_groups : take met (in_order s₀ work lo hi d n) ≡ in_order s₀ work lo hi d n
  all_groups = take_all met (in_order s₀ work lo hi d n) (omega (arith, asked_count o.asked, all_met))

  count : length (groups_in s₀ work lo hi d) ≡ n
  count = sym o.asked.grouped.count

  ks_length : length (children_in s₀ work lo hi d left) ≡ n
  ks_length = length_kids (child_node left d) (kept_groups (groups_in s₀ work lo hi d)) ∙ kept_length (groups_in s₀ work lo hi d) ∙ count

  ended_at : end.at ≡ t.start + j + sizes (kids_in s₀ work lo hi d n left)
  ended_at = w.at ∙ ap (λ (l : List Child). t.start + j + sizes l) all_taken

  -- the count, the table and the children one after the other
  put_together : (h : ¬ (kind_of n ≡ 1)) (table children : List ℕ) → length table ≡ n * 9 → Holds s t.base table → Holds s t.start children
      → Holds s e.at (bytes64 (length (children_in s₀ work lo hi d left)) ++ (table ++ children))
  put_together h table children l a b =
      let first : Holds s e.at (bytes64 n) = holds_ext s₀ s e.at (bytes64 n) (λ k x y. w.before k (omega (arith, length_bytes64 n, (o.sparse h).0))) (o.sparse h).3 in
      rw ks_length
      (holds_append s e.at 8 (bytes64 n) (table ++ children) (length_bytes64 n) first
      (holds_at s t.base (e.at + 8) (table ++ children) (o.sparse h).0
      (holds_append s t.base (n * 9) table children l a (holds_at s t.start (t.base + n * 9) children (omega (arith, (o.sparse h).0, (o.sparse h).1)) b))))

  offset : (h : ¬ (kind_of n ≡ 1)) → t.start - 64 ≡ e.at - 64 + 8 + length (children_in s₀ work lo hi d left) * 9
  offset h = omega (arith, ks_length, (o.sparse h).1, o.asked.from)

  all_children : (h : ¬ (kind_of n ≡ 1)) → Holds s t.start (children_bytes (t.start - 64) (kids_in s₀ work lo hi d n left))
  all_children h =
      let m : j ≡ met = sym (w.sparse h).0 in
      subst (λ (l : List Child). Holds s t.start (children_bytes (t.start - 64) l)) (ap (λ (x : ℕ). take x (kids_in s₀ work lo hi d n left)) m ∙ all_taken) (w.sparse h).1.children

  ended_three : kind_of n ≡ 3 → n ≤ 8 → Ended s e.at n (children_in s₀ work lo hi d left) end.at
  ended_three k f =
      let h : ¬ (kind_of n ≡ 1) = λ x. absurd (omega arith) in
      let ks = children_in s₀ work lo hi d left in
      let same : kids_in s₀ work lo hi d n left ≡ children_in s₀ work lo hi d left =
      ap (kids (child_node left d)) (order_three (kind_of n) (groups_in s₀ work lo hi d) k ∙ sym (kept_few (groups_in s₀ work lo hi d) (omega (arith, count)))) in
      let place : (i : ℕ) → i < n → place_of (kind_of n) (groups_in s₀ work lo hi d) i ≡ i = λ i l.
      ap (λ (l : List Group). rank_of (get_or l i no_group).first (firsts (groups_in s₀ work lo hi d))) (order_three (kind_of n) (groups_in s₀ work lo hi d) k)
      ∙ arrival_rank (groups_in s₀ work lo hi d) o.asked.different i (omega (arith, count)) in
      let table : Holds s t.base (table_by_arrival (t.start - 64) (kids_in s₀ work lo hi d n left)) = table_three s t.base (t.start - 64) (kids_in s₀ work lo hi d n left)
      (λ i l. subst (λ (p : ℕ). Holds s (t.base + p * 9) (entry_bytes (get_or (kids_in s₀ work lo hi d n left) i no_child) (t.start - 64 + children_size (take i (kids_in s₀ work lo hi d n left)))))
      (place i (omega (arith, kids_length o))) ((w.sparse h).1.entries i (omega (arith, kids_length o, all_met, (w.sparse h).0)))) in
      let long : length (table_by_arrival (t.start - 64) (kids_in s₀ work lo hi d n left)) ≡ n * 9 = table_length (t.start - 64) (kids_in s₀ work lo hi d n left) ∙ ap (λ (x : ℕ). x * 9) (kids_length o) in
      let all = put_together h (table_by_arrival (t.start - 64) (kids_in s₀ work lo hi d n left)) (children_bytes (t.start - 64) (kids_in s₀ work lo hi d n left)) long table (all_children h) in
      record {
        bytes = subst (λ (l : List ℕ). Holds s e.at l) (sym (bytes_three (kind_of n) (e.at - 64) ks k))
            (subst (λ (x : ℕ). Holds s e.at (bytes64 (length ks) ++ (table_by_arrival x ks ++ children_bytes x ks))) (offset h)
            (subst (λ (l : List Child). Holds s e.at (bytes64 (length ks) ++ (table_by_arrival (t.start - 64) l ++ children_bytes (t.start - 64) l))) same all));
        ends = omega (arith, ended_at, (w.sparse h).0, all_met, (o.sparse h).1, size_three (kind_of n) 0 ks k, size_sum (kids_in s₀ work lo hi d n left), kids_length o, ap children_size same, ks_length);
      }

  ended_two : kind_of n ≡ 2 → n ≤ 96 → Ended s e.at n (children_in s₀ work lo hi d left) end.at
  ended_two k f =
      let h : ¬ (kind_of n ≡ 1) = λ x. absurd (omega arith) in
      let h₃ : ¬ (kind_of n ≡ 3) = λ x. absurd (omega arith) in
      let ks = children_in s₀ work lo hi d left in
      let order : kids_in s₀ work lo hi d n left ≡ kids (child_node left d) (groups_in s₀ work lo hi d) = ap (kids (child_node left d)) (order_other (kind_of n) (groups_in s₀ work lo hi d) h₃) in
      let kept : children_in s₀ work lo hi d left ≡ kids (child_node left d) (by_arrival (groups_in s₀ work lo hi d)) = ap (kids (child_node left d)) (kept_few (groups_in s₀ work lo hi d) (omega (arith, count))) in
      let climbs : Climbs 0 (kids (child_node left d) (groups_in s₀ work lo hi d)) = rising_climbs (child_node left d) (groups_in s₀ work lo hi d) 0 o.asked.rising (λ g m. (omega arith, o.asked.small g m)) in
      let asc : ascending 256 0 (children_in s₀ work lo hi d left) ≡ kids_in s₀ work lo hi d n left =
      ap (ascending 256 0) kept ∙ ascending_by_arrival (child_node left d) 256 0 (groups_in s₀ work lo hi d) (rising_apart (groups_in s₀ work lo hi d) o.asked.rising)
      ∙ ascending_climbs 256 0 (kids (child_node left d) (groups_in s₀ work lo hi d)) refl climbs ∙ sym order in
      let table : Holds s t.base (table_by_byte (t.start - 64) ks ks) = table_two s t.base (t.start - 64) ks ks (λ i l. entry h h₃ kept order climbs i (omega (arith, ks_length))) in
      let long : length (table_by_byte (t.start - 64) ks ks) ≡ n * 9 = offs_length (t.start - 64) ks ks ∙ ap (λ (x : ℕ). x * 9) ks_length in
      let all = put_together h (table_by_byte (t.start - 64) ks ks) (children_bytes (t.start - 64) (kids_in s₀ work lo hi d n left)) long table (all_children h) in
      record {
        bytes = subst (λ (l : List ℕ). Holds s e.at l) (sym (bytes_two (kind_of n) (e.at - 64) ks k))
            (subst (λ (x : ℕ). Holds s e.at (bytes64 (length ks) ++ (table_by_byte x ks ks ++ children_bytes x (ascending 256 0 ks)))) (offset h)
            (subst (λ (l : List Child). Holds s e.at (bytes64 (length ks) ++ (table_by_byte (t.start - 64) ks ks ++ children_bytes (t.start - 64) l))) (sym asc) all));
        ends = omega (arith, ended_at, (w.sparse h).0, all_met, (o.sparse h).1, size_two (kind_of n) 0 ks k, size_sum (kids_in s₀ work lo hi d n left), kids_length o, ap children_size asc, ks_length);
      }
    where
      entry : (h : ¬ (kind_of n ≡ 1)) → ¬ (kind_of n ≡ 3) → children_in s₀ work lo hi d left ≡ kids (child_node left d) (by_arrival (groups_in s₀ work lo hi d))
          → kids_in s₀ work lo hi d n left ≡ kids (child_node left d) (groups_in s₀ work lo hi d) → Climbs 0 (kids (child_node left d) (groups_in s₀ work lo hi d)) → (i : ℕ) → i < n
          → Holds s (t.base + i * 9) (entry_bytes (get_or (children_in s₀ work lo hi d left) i no_child) (t.start - 64 + size_below (get_or (children_in s₀ work lo hi d left) i no_child).byte (children_in s₀ work lo hi d left)))
      entry h h₃ kept order climbs i l =
          let gs = groups_in s₀ work lo hi d in
          let g : ℕ = arrived (groups_in s₀ work lo hi d) i in
          let gi : g < n = omega (arith, arrived_inside gs o.asked.different i (omega (arith, count)), count) in
          let gl : g < length (groups_in s₀ work lo hi d) = omega (arith, count) in
          let place : place_of (kind_of n) (groups_in s₀ work lo hi d) g ≡ i =
          ap (λ (l : List Group). rank_of (get_or l g no_group).first (firsts (groups_in s₀ work lo hi d))) (order_other (kind_of n) (groups_in s₀ work lo hi d) h₃)
          ∙ arrived_rank (groups_in s₀ work lo hi d) o.asked.different i (omega (arith, count)) in
          let kid-there : get_or (kids_in s₀ work lo hi d n left) g no_child ≡ get_or (children_in s₀ work lo hi d left) i no_child =
          ap (λ (l : List Child). get_or l g no_child) order ∙ get_or_kids (child_node left d) gs g gl
          ∙ ap (kid (child_node left d)) (sym (arrived_place (groups_in s₀ work lo hi d) o.asked.different i (omega (arith, count))))
          ∙ sym (get_or_kids (child_node left d) (by_arrival (groups_in s₀ work lo hi d)) i (omega (arith, length_by_arrival (groups_in s₀ work lo hi d), count))) ∙ ap (λ (l : List Child). get_or l i no_child) (sym kept) in
          let off : children_size (take g (kids_in s₀ work lo hi d n left)) ≡ size_below (get_or (children_in s₀ work lo hi d left) i no_child).byte (children_in s₀ work lo hi d left) =
          ap (λ (l : List Child). children_size (take g l)) order
          ∙ sym (below_climbs 0 (kids (child_node left d) (groups_in s₀ work lo hi d)) g climbs (omega (arith, length_kids (child_node left d) (groups_in s₀ work lo hi d))))
          ∙ ap (λ (l : List Child). size_below (get_or l g no_child).byte (kids (child_node left d) (groups_in s₀ work lo hi d))) (sym order)
          ∙ ap (λ (k : Child). size_below k.byte (kids (child_node left d) (groups_in s₀ work lo hi d))) kid-there
          ∙ sym (below_by_arrival (child_node left d) (get_or (children_in s₀ work lo hi d left) i no_child).byte (groups_in s₀ work lo hi d))
          ∙ ap (size_below (get_or (children_in s₀ work lo hi d left) i no_child).byte) (sym kept) in
          let there = (w.sparse h).1.entries g (omega (arith, all_met, (w.sparse h).0)) in
          subst (λ (p : ℕ). Holds s (t.base + p * 9) (entry_bytes (get_or (children_in s₀ work lo hi d left) i no_child) (t.start - 64 + size_below (get_or (children_in s₀ work lo hi d left) i no_child).byte (children_in s₀ work lo hi d left)))) place
          (subst (λ (x : ℕ). Holds s (t.base + place_of (kind_of n) (groups_in s₀ work lo hi d) g * 9) (entry_bytes (get_or (children_in s₀ work lo hi d left) i no_child) (t.start - 64 + x))) off
          (subst (λ (k : Child). Holds s (t.base + place_of (kind_of n) (groups_in s₀ work lo hi d) g * 9) (entry_bytes k (t.start - 64 + children_size (take g (kids_in s₀ work lo hi d n left))))) kid-there there))

  ended_one : kind_of n ≡ 1 → 96 < n → Ended s e.at n (children_in s₀ work lo hi d left) end.at
  ended_one k f =
      let h₃ : ¬ (kind_of n ≡ 3) = λ x. absurd (omega arith) in
      let ks = children_in s₀ work lo hi d left in
      let u : j ≡ 256 = omega (arith, w.upto, (o.dense k).2) in
      let same : kids_in s₀ work lo hi d n left ≡ children_in s₀ work lo hi d left =
      ap (kids (child_node left d)) (order_other (kind_of n) (groups_in s₀ work lo hi d) h₃ ∙ sym (kept_many (groups_in s₀ work lo hi d) (omega (arith, count)))) in
      let off : t.start - 64 ≡ e.at - 64 + 2048 = omega (arith, (o.dense k).1, o.asked.from) in
      let a : Holds s t.base (slot_offsets 256 0 (e.at - 64 + 2048) ks) =
      subst (λ (x : ℕ). Holds s t.base (slot_offsets x 0 (e.at - 64 + 2048) ks)) u (subst (λ (x : ℕ). Holds s t.base (slot_offsets j 0 x ks)) off (subst (λ (l : List Child). Holds s t.base (slot_offsets j 0 (t.start - 64) l)) same (w.dense k).offsets)) in
      let b : Holds s t.start (slots_bytes 256 0 (e.at - 64 + 2048) ks) =
      subst (λ (x : ℕ). Holds s t.start (slots_bytes x 0 (e.at - 64 + 2048) ks)) u (subst (λ (x : ℕ). Holds s t.start (slots_bytes j 0 x ks)) off (subst (λ (l : List Child). Holds s t.start (slots_bytes j 0 (t.start - 64) l)) same (w.dense k).slots)) in
      let size : slots_size 256 0 ks ≡ 256 + sizes (kids_in s₀ work lo hi d n left) =
      ap (λ (x : ℕ). slots_size x 0 ks) (sym u) ∙ ap (slots_size j 0) (sym same) ∙ (w.dense k).size ∙ ap (λ (l : List Child). j + sizes l) all_taken ∙ ap (λ (x : ℕ). x + sizes (kids_in s₀ work lo hi d n left)) u in
      record {
        bytes = subst (λ (l : List ℕ). Holds s e.at l) (sym (bytes_one (kind_of n) (e.at - 64) ks k))
            (holds_append s e.at 2048 (slot_offsets 256 0 (e.at - 64 + 2048) ks) (slots_bytes 256 0 (e.at - 64 + 2048) ks) (offsets_length 256 0 (e.at - 64 + 2048) ks)
            (holds_at s t.base e.at (slot_offsets 256 0 (e.at - 64 + 2048) ks) (o.dense k).0 a)
            (holds_at s t.start (e.at + 2048) (slots_bytes 256 0 (e.at - 64 + 2048) ks) (o.dense k).1 b));
        ends = omega (arith, ended_at, u, (o.dense k).1, size_one (kind_of n) 0 ks k, size);
      }

  ended : Ended s e.at n (children_in s₀ work lo hi d left) end.at
  ended = go (cases_lt 8 n) (cases_lt 96 n)
    where
      go : (8 < n) ⊎ (n ≤ 8) → (96 < n) ⊎ (n ≤ 96) → Ended s e.at n (children_in s₀ work lo hi d left) end.at
      go (inr x) y = ended_three (kind_three n x) x
      go (inl x) (inr y) = ended_two (kind_two n x y) y
      go (inl x) (inl y) = ended_one (kind_one n y o.asked.grouped.few) y

  nodes_same : nodes_in (take met (kids_in s₀ work lo hi d n left)) ≡ nodes_in (children_in s₀ work lo hi d left)
  nodes_same =
      ap nodes_in all_taken ∙ total_nodes (kids_in s₀ work lo hi d n left) ∙ order_total (child_node left d) (λ k. k.nodes) (kind_of n) (groups_in s₀ work lo hi d)
      ∙ sym (kept_total (child_node left d) (λ k. k.nodes) (groups_in s₀ work lo hi d)) ∙ sym (total_nodes (children_in s₀ work lo hi d left))

  entries_same : entries_in (take met (kids_in s₀ work lo hi d n left)) ≡ entries_in (children_in s₀ work lo hi d left)
  entries_same =
      ap entries_in all_taken ∙ total_entries (kids_in s₀ work lo hi d n left) ∙ order_total (child_node left d) (λ k. k.entries) (kind_of n) (groups_in s₀ work lo hi d)
      ∙ sym (kept_total (child_node left d) (λ k. k.entries) (groups_in s₀ work lo hi d)) ∙ sym (total_entries (children_in s₀ work lo hi d left))

  nodes_kept : nodes_in (children_in s₀ work lo hi d left) ≡ nodes_in (kids (child_node left d) (groups_in s₀ work lo hi d))
  nodes_kept =
      total_nodes (children_in s₀ work lo hi d left) ∙ kept_total (child_node left d) (λ k. k.nodes) (groups_in s₀ work lo hi d) ∙ sym (total_nodes (kids (child_node left d) (groups_in s₀ work lo hi d)))

  lean_end : end.at ≤ e.at + 8 + 64 * nodes_in (children_in s₀ work lo hi d left) + 24 * group_weights (suc d) (groups_in s₀ work lo hi d)
  lean_end = go (eqb (kind_of n) 1) (eq (kind_of n) 1)
    where
      spent : sizes (kids_in s₀ work lo hi d n left) + 31 * n ≤ costs (child_node left d) (suc d) (in_order s₀ work lo hi d n)
      spent = omega (arith, w.lean, ap sizes all_taken, ap (costs (child_node left d) (suc d)) all_groups, all_met)

      go : (b : Bool) → Eq b (kind_of n) 1 → end.at ≤ e.at + 8 + 64 * nodes_in (children_in s₀ work lo hi d left) + 24 * group_weights (suc d) (groups_in s₀ work lo hi d)
      go true h = omega (arith, spent, ended_at, asked_costs o.asked, nodes_kept, (o.dense h).1, (o.dense h).2, w.upto, kind_large n h)
      go false h = omega (arith, spent, ended_at, asked_costs o.asked, nodes_kept, (o.sparse h).1, (o.sparse h).2, w.upto)

  table_ended : TableWritten s₀ s work lo hi d n e left end
  table_ended = record {
    bytes = ended.bytes;
    at = ended.ends;
    nodes = w.nodes ∙ ap (λ (x : ℕ). e.nodes + x) nodes_same;
    entries = w.entries ∙ ap (λ (x : ℕ). e.entries + x) entries_same;
    lean = lean_end;
    counted_nodes = w.counted_nodes;
    counted = w.counted;
    long = w.long;
    before = λ k h. w.before k (omega (arith, (where_is o).base));
    behind = w.behind;
  }

-- the same of the memory before the count was written
pub table_written : {s s₀ : List ℕ} {work lo hi d n : ℕ} {t : Table} {e : End} {gr : Grouping} {left : ℕ} (q : TableAsked s work lo hi d n e gr left) (op : Opened s s₀ e.at n t)
    {s₂ : List ℕ} {end : End} {j met : ℕ} → OnTurns s₀ s₂ work lo hi d n t (first_end t e) end left j met → t.turns ≤ j → TableWritten s s₂ work lo hi d n e left end
table_written {s} {s₀} {work} {lo} {hi} {d} {n} {t} {e} {gr} {left} q op {s₂} {end} w over =
    let x = opened s₀ t q op in
    let y = table_ended x.2 w over in
    let g : groups_in s₀ work lo hi d ≡ groups_in s work lo hi d = later_groups s₀ q x.0 (λ k h. x.1 k (inr h)) in
    record {
      bytes = subst (λ (gs : List Group). Holds s₂ e.at (table_bytes (kind_of n) (e.at - 64) (kids (child_node left d) (kept_groups gs)))) g y.bytes;
      at = subst (λ (gs : List Group). end.at ≡ e.at + table_size (kind_of n) (kids (child_node left d) (kept_groups gs))) g y.at;
      nodes = subst (λ (gs : List Group). end.nodes ≡ e.nodes + nodes_in (kids (child_node left d) (kept_groups gs))) g y.nodes;
      entries = subst (λ (gs : List Group). end.entries ≡ e.entries + entries_in (kids (child_node left d) (kept_groups gs))) g y.entries;
      lean = subst (λ (gs : List Group). end.at ≤ e.at + 8 + 64 * nodes_in (kids (child_node left d) (kept_groups gs)) + 24 * group_weights (suc d) gs) g y.lean;
      counted_nodes = y.counted_nodes;
      counted = y.counted;
      long = y.long ∙ x.0;
      before = λ k h. y.before k h ∙ x.1 k (inl h);
      behind = λ k h. y.behind k h ∙ x.1 k (inr h);
    }
