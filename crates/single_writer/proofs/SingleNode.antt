-- The node of a single tail: the tail ends there, or goes on to one node below it. Assumes nothing.
use Prim.Native.Nat.{ℕ, zero, suc, ◌+◌, ◌-◌, ◌*◌, ◌≤◌, ◌<◌}
use native.Mathlib.Omega.{arith}
use mathlib.Core.Path.{◌≡◌, refl, sym, ap, subst, ◌∙◌}
use mathlib.Core.Bool.{Bool, true, false, not, ◌&&◌, cond}
use mathlib.Core.List.{List, [], ◌∷◌, ◌++◌, append-nil, append_assoc}
use lib.ListN.{length, length-append}
use lib.Dec.{eqb}
use borrow.Author.Tests.{eq-eqb, ne_eqb}
use Rattle.words.specs.Words.{bytes64}
use Rattle.words.specs.Holding.{Holds}
use Rattle.words.proofs.Parts.{length_bytes64}
use Rattle.words.proofs.Holding.{holds_at, holds_append, holds_ext}
use Rattle.trie.specs.Trie.{Lists, leaf, more, Node, entries_of, forest_nodes, forest_entries}
use Rattle.tails.specs.Tails.{Tail}
use Rattle.tails.specs.Groups.{ends_as, after_run, byte_at, below, groups, group_lists, group_node}
use Rattle.kinds.specs.Kinds.{kind_of}
use Rattle.image_format.specs.Image.{Child, as_child, children_of, lists_bytes, lists_size, children_bytes, children_size, table_by_arrival, table_bytes, table_size, node_bytes, node_size}
use Rattle.image_format.proofs.Holding.{head_length}
use Rattle.tails.specs.Weights.{weights, group_weights}
use Rattle.list_writer.specs.declared.End.{End}
use Rattle.tail_words.specs.Tail.{tails_in}
use Rattle.single_writer.specs.Heads.{Front}
use Rattle.single_writer.specs.Nodes.{Stands}
use Rattle.single_writer.specs.Singles.{single_bytes}

-- ── the trie ──

module _ (d : ℕ) (t : Tail) (long : d < length t.entry.path) where
  longer : eqb (length t.entry.path) d ≡ false
  longer = ne_eqb (length t.entry.path) d (omega arith)

  pub not_ended : (w : Bool) → ends_as d w t ≡ false
  not_ended true = rw longer refl
  not_ended false = rw longer refl

  pub goes_below : below d (t ∷ []) ≡ t ∷ []
  goes_below = rw (not_ended false) (rw (not_ended true) refl)

  pub goes_node : (m : ℕ) → (group_node (suc m) d (t ∷ [])).children ≡ more (byte_at d t) (group_node m (suc d) (t ∷ [])).lists (group_node m (suc d) (t ∷ [])).children leaf
  goes_node m = rw goes_below refl

  pub goes_weight : group_weights (suc d) (groups d (below d (t ∷ []))) ≡ weights (suc d) (t ∷ [])
  goes_weight = rw goes_below (omega arith)

module _ (d : ℕ) (t : Tail) (ends : length t.entry.path ≡ d) where
  here : eqb (length t.entry.path) d ≡ true
  here = eq-eqb (length t.entry.path) d ends

  pub ends_below : below d (t ∷ []) ≡ []
  ends_below = rw here (go t.entry.whole refl)
    where
      go : (w : Bool) → t.entry.whole ≡ w → after_run (ends_as d true) (cond (true && not w) [] (t ∷ [])) ≡ []
      go true e = rw (here, e) refl
      go false e = refl

  pub ends_node : (m : ℕ) → (group_node m d (t ∷ [])).children ≡ leaf
  ends_node zero = refl
  ends_node (suc m) = rw ends_below refl

-- ── the bytes ──

pub sizes : (h : Lists) → lists_size h ≡ 24 + 24 * entries_of h
unfolding lists_size
sizes h = refl

-- a node with no child
pub leaf_stands : {s s₁ : List ℕ} {work lo hi d : ℕ} {e end : End} (f : Front s s₁ work lo hi d 0 e end) (n : Node) (r : End) → n.lists ≡ group_lists d (tails_in s work lo hi) → n.children ≡ leaf
    → Holds s₁ end.at (bytes64 0) → r.at ≡ end.at + 8 → r.nodes ≡ end.nodes → r.entries ≡ end.entries → e.nodes ≤ e.at → e.entries ≤ e.at → Stands s s₁ n (weights d (tails_in s work lo hi)) work e r
unfolding Holds children_of node_bytes node_size table_bytes table_size table_by_arrival children_bytes children_size kind_of lists_size
leaf_stands {s} {s₁} {work} {lo} {hi} {d} {e} {end} f n r el ec count ra rn re cn ce =
    let h : Lists = group_lists d (tails_in s work lo hi) in
    record {
      bytes = rw (el, ec) (
        f.bytes.0,
        holds_append s₁ (e.at + 1) (24 + 24 * entries_of h) (lists_bytes h) (bytes64 0 ++ []) (head_length h) f.bytes.1
            (rw (append-nil (bytes64 0)) (holds_at s₁ end.at (e.at + 1 + (24 + 24 * entries_of h)) (bytes64 0) (omega (arith, f.at)) count)),
      );
      at = rw (el, ec) (omega (arith, f.at));
      nodes = rw ec (rn ∙ f.nodes);
      entries = rw (el, ec) (omega (arith, f.entries));
      lean = rw ec (omega (arith, f.at, f.few));
      counted_nodes = omega (arith, f.at, f.nodes);
      counted = omega (arith, f.at, f.entries);
      long = f.long;
      before = f.before;
      behind = f.behind;
    }

in_line : (p q x : List ℕ) (b : ℕ) → p ++ ((b ∷ (q ++ [])) ++ (1 ∷ (x ++ []))) ≡ (p ++ (b ∷ (q ++ (1 ∷ [])))) ++ x
in_line p q x b = rw (append-nil q, append-nil x) (sym (append_assoc p (b ∷ (q ++ (1 ∷ []))) x ∙ ap (λ (l : List ℕ). p ++ (b ∷ l)) (append_assoc q (1 ∷ []) x)))

-- a table of one child
table_one : (o : ℕ) (k : Child) → table_bytes 3 o (k ∷ []) ≡ single_bytes k.byte (o + 17) ++ k.bytes (o + 18)
unfolding table_bytes table_by_arrival children_bytes
table_one o k =
    let a : o + 8 + 1 * 9 ≡ o + 17 = omega arith in
    let c : o + 8 + 1 * 9 + 1 ≡ o + 18 = omega arith in
    (λ i. bytes64 1 ++ ((k.byte ∷ (bytes64 (a i) ++ [])) ++ (1 ∷ (k.bytes (c i) ++ [])))) ∙ in_line (bytes64 1) (bytes64 (o + 17)) (k.bytes (o + 18)) k.byte

node_one : (o : ℕ) (h : Lists) (k : Child) → node_bytes o h (k ∷ []) ≡ kind_of 1 ∷ (lists_bytes h ++ (single_bytes k.byte (o + 1 + lists_size h + 17) ++ k.bytes (o + 1 + lists_size h + 18)))
unfolding node_bytes kind_of
node_one o h k = ap (λ (l : List ℕ). 3 ∷ (lists_bytes h ++ l)) (table_one (o + 1 + lists_size h) k)

size_one : (h : Lists) (k : Child) → node_size h (k ∷ []) ≡ 1 + lists_size h + 18 + k.size
unfolding node_size table_size children_size kind_of
size_one h k = omega arith

pub single_length : (b o : ℕ) → length (single_bytes b o) ≡ 18
single_length b o = omega (arith, length-append (bytes64 1) (b ∷ (bytes64 o ++ (1 ∷ []))), length-append (bytes64 o) (1 ∷ []), length_bytes64 1, length_bytes64 o)

-- a node with a single child
module _ {s s₁ : List ℕ} {work lo hi d : ℕ} {e end : End} (f : Front s s₁ work lo hi d 1 e end) (n n₁ : Node) (w₁ b : ℕ) (r r₂ : End) (s₂ : List ℕ)
    (el : n.lists ≡ group_lists d (tails_in s work lo hi)) (ec : n.children ≡ more b n₁.lists n₁.children leaf) (from : 64 ≤ e.at)
    (table : Holds s₁ end.at (single_bytes b (end.at - 64 + 17))) (few : entries_of (group_lists d (tails_in s work lo hi)) + w₁ ≤ weights d (tails_in s work lo hi))
    (ra : r.at ≡ end.at + 18) (rn : r.nodes ≡ end.nodes) (re : r.entries ≡ end.entries) (st : Stands s₁ s₂ n₁ w₁ work r r₂) where
  abbrev h : Lists
  h = group_lists d (tails_in s work lo hi)

  abbrev there : ℕ
  there = e.at + 1 + lists_size h

  abbrev off : ℕ
  off = e.at - 64 + 1 + lists_size h

  front₂ : Holds s₂ e.at (kind_of 1 ∷ lists_bytes h)
  front₂ = holds_ext s₁ s₂ e.at (kind_of 1 ∷ lists_bytes h) (λ k x y. st.before k (omega (arith, f.at, head_length h))) f.bytes

  table₂ : Holds s₂ there (single_bytes b (off + 17))
  table₂ =
      let o : end.at - 64 + 17 ≡ off + 17 = omega (arith, f.at) in
      subst (λ (x : ℕ). Holds s₂ there (single_bytes b x)) o (holds_at s₂ end.at there (single_bytes b (end.at - 64 + 17)) f.at
      (holds_ext s₁ s₂ end.at (single_bytes b (end.at - 64 + 17)) (λ k x y. st.before k (omega (arith, single_length b (end.at - 64 + 17)))) table))

  below₂ : Holds s₂ (there + 18) (node_bytes (off + 18) n₁.lists (children_of n₁.children))
  below₂ =
      let o : r.at - 64 ≡ off + 18 = omega (arith, f.at) in
      subst (λ (x : ℕ). Holds s₂ (there + 18) (node_bytes x n₁.lists (children_of n₁.children))) o
      (holds_at s₂ r.at (there + 18) (node_bytes (r.at - 64) n₁.lists (children_of n₁.children)) (omega (arith, f.at)) st.bytes)

  pub single_stands : Stands s s₂ n (weights d (tails_in s work lo hi)) work e r₂
  unfolding Holds children_of as_child
  single_stands =
      let is : node_bytes (e.at - 64) n.lists (children_of n.children) ≡ kind_of 1 ∷ (lists_bytes h ++ (single_bytes b (off + 17) ++ node_bytes (off + 18) n₁.lists (children_of n₁.children))) =
      (λ i. node_bytes (e.at - 64) (el i) (children_of (ec i))) ∙ node_one (e.at - 64) h (as_child b n₁.lists (children_of n₁.children)) in
      let size : node_size n.lists (children_of n.children) ≡ 1 + lists_size h + 18 + node_size n₁.lists (children_of n₁.children) =
      (λ i. node_size (el i) (children_of (ec i))) ∙ size_one h (as_child b n₁.lists (children_of n₁.children)) in
      let nodes : forest_nodes n.children ≡ suc (forest_nodes n₁.children + 0) = ap forest_nodes ec in
      let entries : forest_entries n.children ≡ entries_of n₁.lists + forest_entries n₁.children + 0 = ap forest_entries ec in
      let own : entries_of n.lists ≡ entries_of h = ap entries_of el in
      let sized = sizes h in
      record {
        bytes = subst (λ (l : List ℕ). Holds s₂ e.at l) (sym is) (
          front₂.0,
          holds_append s₂ (e.at + 1) (lists_size h) (lists_bytes h) _ (head_length h) front₂.1 (holds_append s₂ there 18 (single_bytes b (off + 17)) _ (single_length b (off + 17)) table₂ below₂),
        );
        at = omega (arith, f.at, st.at);
        nodes = omega (arith, f.nodes, st.nodes);
        entries = omega (arith, f.entries, st.entries);
        lean = omega (arith, f.at, st.lean);
        counted_nodes = st.counted_nodes;
        counted = st.counted;
        long = st.long ∙ f.long;
        before = λ k x. st.before k (omega (arith, f.at)) ∙ f.before k x;
        behind = λ k x. st.behind k x ∙ f.behind k x;
      }
