-- A node from its head and its table: what each asks, and the whole. Assumes nothing.
use Prim.Native.Nat.{ℕ, zero, suc, ◌+◌, ◌-◌, ◌*◌, ◌≤◌, ◌<◌}
use native.Mathlib.Omega.{arith}
use mathlib.Core.Path.{◌≡◌, refl, sym, ap, subst, ◌∙◌}
use mathlib.Core.List.Memᴰ.{head as here}
use mathlib.Core.List.{List, [], ◌∷◌, ◌++◌, Memᴰ as Mem}
use lib.ListN.{length}
use Rattle.words.specs.Holding.{Holds}
use Rattle.words.proofs.Holding.{holds_append, holds_ext}
use Rattle.trie.specs.Trie.{Lists, entries_of, forest_nodes, forest_entries}
use Rattle.trie.specs.Build.{Rising}
use Rattle.tails.specs.Tails.{Tail}
use Rattle.tails.specs.Groups.{Group, below, groups, kept_groups, group_lists, group_node, bytes_of}
use Rattle.tails.proofs.High.{sound_bytes}
use Rattle.tails.proofs.Keep.{keep_mem}
use Rattle.tails.proofs.Runs.{goes, goes_is, longer, below_here}
use Rattle.tails.proofs.Groups.{mem_bytes, groups_rising, group_run, byte_goes}
use Rattle.kinds.specs.Kinds.{kind_of}
use Rattle.image_format.specs.Image.{Child, children_of, nodes_in, entries_in, lists_bytes, lists_size, table_bytes, table_size, node_bytes, node_size}
use Rattle.image_format.proofs.Holding.{head_length}
use Rattle.image_format.proofs.ByByte.{total_nodes}
use Rattle.image_format.proofs.Shapes.{count_nodes, count_entries}
use Rattle.tails.specs.Runs.{Run}
use Rattle.tails.specs.Weights.{group_weights}
use Rattle.tail_words.specs.Tail.{tails_in}
use Rattle.tail_groups.specs.Ranks.{Apart}
use Rattle.tail_groups.proofs.Memory.{tails_ext, held_ext, held_part}
use Rattle.tail_groups.proofs.Distinct.{groups_different, apart_part}
use Rattle.list_writer.specs.declared.End.{End}
use Rattle.tail_groups.specs.declared.Grouping.{Grouping}
use Rattle.single_writer.specs.declared.Head.{Head}
use Rattle.single_writer.specs.Kids.{kids}
use Rattle.slot_writer.specs.Turns.{groups_in}
use Rattle.single_writer.specs.Heads.{HeadAsked, HeadWritten}
use Rattle.single_writer.specs.Nodes.{child_node, children_in, TableAsked, TableWritten, node_of, SpanAsked, SpanWritten, NodeAsked}
use Rattle.single_writer.proofs.Orders.{forest_kids, length_kids}
use Rattle.single_writer.proofs.Places.{kept_length, kept_total}
use Rattle.single_writer.proofs.NodeHead.{below_longer}

-- ── the node's children are those of its groups ──

-- no tail goes on behind 16 bytes
none_below : (us : List Tail) → ((t : Tail) → Mem t us → 16 < length t.entry.path) → ((t : Tail) → Mem t us → length t.entry.path ≤ 16) → us ≡ []
none_below [] f g = refl
none_below (u ∷ us) f g = absurd (omega (arith, f u (here refl), g u (here refl)))

below_short : (d : ℕ) (ts : List Tail) → Run d ts → (t : Tail) → Mem t (below d ts) → length t.entry.path ≤ 16
below_short d ts r t m = (r.sound t (keep_mem (longer d) ts (subst (λ (l : List Tail). Mem t l) (below_here d ts r) m)).listed).short

pub node_lists : (left d : ℕ) (ts : List Tail) → (group_node left d ts).lists ≡ group_lists d ts
node_lists zero d ts = refl
node_lists (suc left) d ts = refl

pub node_kids : (left d : ℕ) (ts : List Tail) → Run d ts → d + left ≡ 16 → children_of (group_node left d ts).children ≡ kids (child_node left d) (kept_groups (groups d (below d ts)))
unfolding children_of
node_kids zero d ts r e =
    let sixteen : d ≡ 16 = omega arith in
    let none : below d ts ≡ [] = none_below (below d ts) (λ t m. omega (arith, below_longer d ts (below d ts) r refl t m)) (below_short d ts r) in
    rw none refl
node_kids (suc left) d ts r e =
    let p : suc left - 1 ≡ left = omega arith in
    forest_kids (group_node left (suc d)) (kept_groups (groups d (below d ts))) ∙ ap (λ (n : ℕ). kids (group_node n (suc d)) (kept_groups (groups d (below d ts)))) (sym p)

-- ── what the head asks ──

pub span_head : {s : List ℕ} {work lo hi d : ℕ} {e : End} {left : ℕ} → SpanAsked s work lo hi d e left → lo ≤ hi → HeadAsked s work lo hi d e
span_head q order = record {
  order = order;
  held = q.held;
  memory = q.memory;
  run = q.run;
  depth = omega (arith, q.depth);
  room = omega (arith, q.room);
  counted_nodes = q.counted_nodes;
  counted = q.counted;
}

module _ {s : List ℕ} {work lo hi d : ℕ} {e : End} {left : ℕ} (q : NodeAsked s work lo hi d e left) where
  kids_are : children_of (node_of s work lo hi d left).children ≡ kids (child_node left d) (kept_groups (groups d (below d (tails_in s work lo hi))))
  kids_are = node_kids left d (tails_in s work lo hi) q.span.run q.span.depth

  nodes_are : forest_nodes (node_of s work lo hi d left).children ≡ nodes_in (kids (child_node left d) (kept_groups (groups d (below d (tails_in s work lo hi)))))
  nodes_are = sym (count_nodes (node_of s work lo hi d left).children) ∙ ap nodes_in kids_are

  entries_are : forest_entries (node_of s work lo hi d left).children ≡ entries_in (kids (child_node left d) (kept_groups (groups d (below d (tails_in s work lo hi)))))
  entries_are = sym (count_entries (node_of s work lo hi d left).children) ∙ ap entries_in kids_are

  nodes_kept : nodes_in (kids (child_node left d) (kept_groups (groups d (below d (tails_in s work lo hi))))) ≡ nodes_in (kids (child_node left d) (groups d (below d (tails_in s work lo hi))))
  nodes_kept =
      total_nodes (kids (child_node left d) (kept_groups (groups d (below d (tails_in s work lo hi))))) ∙ kept_total (child_node left d) (λ k. k.nodes) (groups d (below d (tails_in s work lo hi)))
      ∙ sym (total_nodes (kids (child_node left d) (groups d (below d (tails_in s work lo hi)))))

  -- ── what the table asks ──

  module _ {s₁ : List ℕ} {gr : Grouping} {h : Head} (w : HeadWritten s s₁ work lo hi d e gr h) where
    rest : tails_in s₁ work h.below hi ≡ below d (tails_in s work lo hi)
    rest = tails_ext s s₁ work h.below hi (λ k a b. w.front.behind k (omega arith)) ∙ w.rest

    groups_are : groups_in s₁ work h.below hi d ≡ groups d (below d (tails_in s work lo hi))
    groups_are = ap (groups d) rest

    small : (g : Group) → Mem g (groups d (below d (tails_in s work lo hi))) → g.byte < 256
    small g m =
        let x = byte_goes d (tails_in s work lo hi) q.span.run (mem_bytes (groups d (below d (tails_in s work lo hi))) m) in
        let k = keep_mem (goes d g.byte) (tails_in s work lo hi) x.1 in
        let b = (goes_is d g.byte x.0 k.passes).1 in
        omega (arith, b, sound_bytes x.0.entry.path (q.span.run.sound x.0 k.listed) d)

    apart₁ : Apart (tails_in s₁ work h.below hi)
    apart₁ =
        subst Apart (sym (tails_ext s s₁ work h.below hi (λ k a b. w.front.behind k (omega arith))))
        (apart_part s work lo hi h.below hi q.apart w.from w.upto (omega arith))

    pub table_asked : TableAsked s₁ work h.below hi d gr.count h.end gr left
    unfolding lists_size
    table_asked = record {
      order = w.upto;
      grouped = w.grouped;
      held = held_ext s s₁ work h.below hi (λ k a b. w.front.behind k (omega arith)) (held_part h.below hi q.span.held w.from (omega arith));
      memory = omega (arith, w.front.long, q.span.memory);
      different = groups_different d (tails_in s₁ work h.below hi) apart₁;
      rising = subst (λ (gs : List Group). Rising (bytes_of gs)) (sym groups_are) (groups_rising d (tails_in s work lo hi) q.span.run);
      small = subst (λ (gs : List Group). (g : Group) → Mem g gs → g.byte < 256) (sym groups_are) small;
      runs = subst (λ (gs : List Group). (g : Group) → Mem g gs → Run (suc d) g.tails) (sym groups_are) (group_run d (tails_in s work lo hi) q.span.run);
      apart = apart₁;
      depth = q.span.depth;
      from = omega (arith, w.front.at, q.span.from);
      counted_nodes = omega (arith, w.front.at, w.front.nodes, q.span.counted_nodes);
      counted = omega (arith, w.front.at, w.front.entries, q.span.counted);
      room = subst (λ (gs : List Group). h.end.at + 39 + 64 * nodes_in (kids (child_node left d) gs) + 24 * group_weights (suc d) gs ≤ work) (sym groups_are)
          (omega (arith, q.span.room, nodes_are, nodes_kept, w.front.few, w.front.at));
    }

    -- ── the whole ──

    pub node_written : {s₂ : List ℕ} {r : End} → TableWritten s₁ s₂ work h.below hi d gr.count h.end left r → SpanWritten s s₂ work lo hi d e left r
    unfolding Holds node_bytes node_size lists_size
    node_written {s₂} {r} t =
        let H : Lists = group_lists d (tails_in s work lo hi) in
        let KS : List Child = kids (child_node left d) (kept_groups (groups d (below d (tails_in s work lo hi)))) in
        let same : children_in s₁ work h.below hi d left ≡ KS = ap (λ (gs : List Group). kids (child_node left d) (kept_groups gs)) groups_are in
        let count : length KS ≡ gr.count =
        length_kids (child_node left d) (kept_groups (groups d (below d (tails_in s work lo hi)))) ∙ kept_length (groups d (below d (tails_in s work lo hi))) ∙ ap length (sym groups_are) ∙ sym w.grouped.count in
        let hl = head_length H in
        let at₁ : h.end.at ≡ e.at + 1 + (24 + 24 * entries_of H) = w.front.at in
        let front : Holds s₂ e.at (kind_of gr.count ∷ lists_bytes H) = holds_ext s₁ s₂ e.at (kind_of gr.count ∷ lists_bytes H) (λ k a b. t.before k (omega (arith, hl))) w.front.bytes in
        let off : h.end.at - 64 ≡ e.at - 64 + 1 + (24 + 24 * entries_of H) = omega (arith, q.span.from) in
        let table : Holds s₂ (e.at + 1 + (24 + 24 * entries_of H)) (table_bytes (kind_of gr.count) (e.at - 64 + 1 + (24 + 24 * entries_of H)) KS) =
        subst (λ (x : ℕ). Holds s₂ x (table_bytes (kind_of gr.count) (e.at - 64 + 1 + (24 + 24 * entries_of H)) KS)) at₁
        (subst (λ (x : ℕ). Holds s₂ h.end.at (table_bytes (kind_of gr.count) x KS)) off (subst (λ (ks : List Child). Holds s₂ h.end.at (table_bytes (kind_of gr.count) (h.end.at - 64) ks)) same t.bytes)) in
        let whole : Holds s₂ e.at (kind_of gr.count ∷ (lists_bytes H ++ table_bytes (kind_of gr.count) (e.at - 64 + 1 + (24 + 24 * entries_of H)) KS)) =
        (front.0, holds_append s₂ (e.at + 1) (24 + 24 * entries_of H) (lists_bytes H) (table_bytes (kind_of gr.count) (e.at - 64 + 1 + (24 + 24 * entries_of H)) KS) hl front.1 table) in
        let sized : r.at ≡ e.at + (1 + (24 + 24 * entries_of H) + table_size (kind_of gr.count) KS) =
        t.at ∙ ap (λ (ks : List Child). h.end.at + table_size (kind_of gr.count) ks) same ∙ omega arith in
        let nodes₂ : r.nodes ≡ h.end.nodes + nodes_in KS = t.nodes ∙ ap (λ (ks : List Child). h.end.nodes + nodes_in ks) same in
        let entries₂ : r.entries ≡ h.end.entries + entries_in KS = t.entries ∙ ap (λ (ks : List Child). h.end.entries + entries_in ks) same in
        let lists₂ : entries_of (node_of s work lo hi d left).lists ≡ entries_of H = ap entries_of (node_lists left d (tails_in s work lo hi)) in
        let lean₂ : r.at ≤ h.end.at + 8 + 64 * nodes_in KS + 24 * group_weights (suc d) (groups d (below d (tails_in s work lo hi))) =
        subst (λ (gs : List Group). r.at ≤ h.end.at + 8 + 64 * nodes_in (kids (child_node left d) (kept_groups gs)) + 24 * group_weights (suc d) gs) groups_are t.lean in
        record {
          bytes = rw (node_lists left d (tails_in s work lo hi), kids_are, count) whole;
          at = rw (node_lists left d (tails_in s work lo hi), kids_are, count) sized;
          nodes = omega (arith, nodes₂, w.front.nodes, nodes_are);
          entries = omega (arith, entries₂, w.front.entries, entries_are, lists₂);
          lean = omega (arith, lean₂, w.front.few, nodes_are, at₁);
          counted_nodes = t.counted_nodes;
          counted = t.counted;
          long = t.long ∙ w.front.long;
          before = λ k a. t.before k (omega (arith, at₁)) ∙ w.front.before k a;
          behind = λ k a. t.behind k a ∙ w.front.behind k a;
        }
