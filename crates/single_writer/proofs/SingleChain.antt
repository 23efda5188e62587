-- A single tail in memory: what each of its nodes asks, what it writes, and one node above all below it. Assumes nothing.
use Prim.Native.Nat.{ℕ, suc, ◌+◌, ◌-◌, ◌≤◌, ◌<◌}
use native.Mathlib.Numerals.{add-one}
use native.Mathlib.Nat.{le_refl}
use native.Mathlib.Omega.{arith}
use mathlib.Core.Path.{◌≡◌, refl, sym, ap, subst, ◌∙◌}
use mathlib.Core.Bool.{Bool, true, false}
use mir.Val.{bool_byte}
use mathlib.Core.Logic.{inl, inr}
use mathlib.Core.List.Memᴰ.{eq_of_singleton as only}
use mathlib.Core.List.{List, [], ◌∷◌, ◌++◌, Memᴰ as Mem}
use lib.ListN.{length, get_or, set}
use lib.Seq.{sets, length-sets}
use lib.Dec.{eqb, ltb}
use borrow.Author.Tests.{eq-eqb, ltb-true, ltb-false}
use Rattle.words.specs.Words.{bytes64, set_le64}
use Rattle.words.specs.Holding.{Holds}
use Rattle.words.proofs.Parts.{sets_append, get_or_sets_out, length_bytes64, set_le64_sets}
use Rattle.words.proofs.Holding.{holds_ext, holds_sets}
use Rattle.trie.specs.Trie.{leaf, more, entries_of, forest_nodes}
use Rattle.tails.specs.Tails.{Tail}
use Rattle.tails.specs.Groups.{ends_as, run, byte_at, below, groups, group_lists, group_node}
use Rattle.image_format.specs.Image.{lists_bytes}
use Rattle.image_format.proofs.Holding.{head_length}
use Rattle.tails.specs.Runs.{Run}
use Rattle.tails.specs.Weights.{weights, group_weights}
use Rattle.tail_words.specs.Tail.{record_in, tail_of_record, tail_in, tails_in, Held, ValidRecord}
use Rattle.tail_groups.proofs.Memory.{tails_none, tails_step, tails_mem, tails_ext, record_ext, held_ext}
use Rattle.tail_groups.proofs.Runs.{run_none, run_stops, run_goes}
use Rattle.list_writer.specs.declared.End.{End}
use Rattle.single_writer.specs.Heads.{HeadAsked, Front}
use Rattle.kinds.specs.Kinds.{kind_of}
use Rattle.single_writer.specs.Nodes.{node_of, SpanAsked, SpanWritten}
use Rattle.single_writer.specs.Singles.{single_bytes, SingleWritten, LeafWritten}
use Rattle.single_writer.proofs.SingleNode.{not_ended, goes_node, goes_weight, ends_node, sizes, single_length, leaf_stands, single_stands}
use Rattle.single_writer.proofs.WholeNode.{node_lists, span_head}

pub single_tail : (s : List ℕ) (work i : ℕ) → tails_in s work i (i + 1) ≡ tail_in s work i ∷ []
single_tail s work i = tails_step s work i (i + 1) (omega arith) ∙ ap (λ (ts : List Tail). tail_in s work i ∷ ts) (tails_none s work (i + 1) (i + 1) (le_refl (i + 1)))

-- ── where the tail ends ──

module _ (s : List ℕ) (work i k : ℕ) {b : Bool} (e : b ≡ ltb k (length (tail_in s work i).entry.path)) where
  pub goes_on : b ≡ true → k < length (tail_in s work i).entry.path
  goes_on h = ltb-true k (length (tail_in s work i).entry.path) (sym e ∙ h)

  pub goes_not : b ≡ false → length (tail_in s work i).entry.path ≤ k
  goes_not h = ltb-false k (length (tail_in s work i).entry.path) (sym e ∙ h)

pub goes_run : (s : List ℕ) (work i d : ℕ) (w : Bool) → d < length (tail_in s work i).entry.path → i ≡ i + length (run (ends_as d w) (tails_in s work i (i + 1)))
goes_run s work i d w long = omega (arith, run_stops s work (i + 1) (ends_as d w) i (omega arith) (not_ended d (tail_in s work i) long w))

-- where the run of a single tail ends
pub one_run : (s : List ℕ) (work i d n : ℕ) (w p : Bool) → p ≡ ends_as d w (tail_in s work i) → n ≡ bool_byte p → i + n ≡ i + length (run (ends_as d w) (tails_in s work i (i + 1)))
one_run s work i d n w true e f = omega (arith, run_goes s work (i + 1) (ends_as d w) i (omega arith) (sym e), run_none s work (i + 1) (ends_as d w) (i + 1) (le_refl (i + 1)))
one_run s work i d n w false e f = omega (arith, run_stops s work (i + 1) (ends_as d w) i (omega arith) (sym e))

pub ends_run : (s : List ℕ) (work i d parts : ℕ) → length (tail_in s work i).entry.path ≡ d → parts ≡ i + length (run (ends_as d false) (tails_in s work i (i + 1)))
    → i + 1 ≡ parts + length (run (ends_as d true) (tails_in s work parts (i + 1)))
ends_run s work i d parts ends first = go (tail_in s work i).entry.whole refl
  where
    here : eqb (length (tail_in s work i).entry.path) d ≡ true
    here = eq-eqb (length (tail_in s work i).entry.path) d ends

    go : (w : Bool) → (tail_in s work i).entry.whole ≡ w → i + 1 ≡ parts + length (run (ends_as d true) (tails_in s work parts (i + 1)))
    go true e =
        let p : parts ≡ i = omega (arith, run_stops s work (i + 1) (ends_as d false) i (omega arith) (rw (here, e) refl)) in
        rw p (omega (arith, run_goes s work (i + 1) (ends_as d true) i (omega arith) (rw (here, e) refl), run_none s work (i + 1) (ends_as d true) (i + 1) (le_refl (i + 1))))
    go false e =
        let p : parts ≡ i + 1 = omega (arith, run_goes s work (i + 1) (ends_as d false) i (omega arith) (rw (here, e) refl), run_none s work (i + 1) (ends_as d false) (i + 1) (le_refl (i + 1))) in
        rw p (omega (arith, run_none s work (i + 1) (ends_as d true) (i + 1) (le_refl (i + 1))))

-- ── what stands behind the lists ──

linked : (s s₁ s₂ : List ℕ) (a b : ℕ) → s₁ ≡ set_le64 s a 1 → s₂ ≡ set (sets (set s₁ (a + 8) b) (a + 9) (bytes64 (a + 17 - 64))) (a + 17) 1 → 64 ≤ a → s₂ ≡ sets s a (single_bytes b (a - 64 + 17))
linked s s₁ s₂ a b e₁ e₂ h =
    let n : a + length (bytes64 1) ≡ a + 8 = omega (arith, length_bytes64 1) in
    let o : a + 17 - 64 ≡ a - 64 + 17 = omega arith in
    let x : a + 9 ≡ suc (a + 8) = omega arith in
    let y : a + 17 ≡ suc (a + 8) + length (bytes64 (a - 64 + 17)) = omega (arith, length_bytes64 (a - 64 + 17)) in
    let first : s₁ ≡ sets s a (bytes64 1) = e₁ ∙ set_le64_sets s a 1 in
    e₂ ∙ (λ j. set (sets (set (first j) (a + 8) b) (x j) (bytes64 (o j))) (y j) 1)
    ∙ sym (sets_append (set (sets s a (bytes64 1)) (a + 8) b) (suc (a + 8)) (bytes64 (a - 64 + 17)) (1 ∷ []))
    ∙ sym (sets_append s a (bytes64 1) (b ∷ (bytes64 (a - 64 + 17) ++ (1 ∷ []))) ∙ ap (λ (k : ℕ). sets (sets s a (bytes64 1)) k (b ∷ (bytes64 (a - 64 + 17) ++ (1 ∷ [])))) n)

module _ {s s₁ : List ℕ} {work lo hi d n : ℕ} {e end : End} (f : Front s s₁ work lo hi d n e end) where
  pub front_room : HeadAsked s work lo hi d e → end.at + 18 ≤ work
  front_room q = omega (arith, f.at, f.few, q.room, sizes (group_lists d (tails_in s work lo hi)))

  -- more bytes behind it
  front_then : (s₂ zs : List ℕ) → s₂ ≡ sets s₁ end.at zs → end.at + length zs ≤ work → Front s s₂ work lo hi d n e end
  front_then s₂ zs is h =
      let low : (k : ℕ) → k < end.at → get_or s₂ k 0 ≡ get_or s₁ k 0 = λ k l. ap (λ (x : List ℕ). get_or x k 0) is ∙ get_or_sets_out zs s₁ end.at k (inl l) in
      record {
        bytes = holds_ext s₁ s₂ e.at (kind_of n ∷ lists_bytes (group_lists d (tails_in s work lo hi))) (λ k a b. low k (omega (arith, f.at, head_length (group_lists d (tails_in s work lo hi))))) f.bytes;
        at = f.at;
        few = f.few;
        nodes = f.nodes;
        entries = f.entries;
        long = ap length is ∙ length-sets s₁ end.at zs ∙ f.long;
        before = λ k a. low k (omega (arith, f.at)) ∙ f.before k a;
        behind = λ k a. ap (λ (x : List ℕ). get_or x k 0) is ∙ get_or_sets_out zs s₁ end.at k (inr (omega arith)) ∙ f.behind k a;
      }

  stands_there : HeadAsked s work lo hi d e → (s₂ zs : List ℕ) → s₂ ≡ sets s₁ end.at zs → end.at + length zs ≤ work → Holds s₂ end.at zs
  stands_there q s₂ zs is h = subst (λ (x : List ℕ). Holds x end.at zs) (sym is) (holds_sets zs s₁ end.at (omega (arith, q.memory, f.long)))

-- the tail is still there
pub front_tail : {s s₁ : List ℕ} {work i d n : ℕ} {e end : End} → Front s s₁ work i (i + 1) d n e end → tail_in s₁ work i ≡ tail_in s work i
front_tail {s} {s₁} {work} {i} f = ap tail_of_record (record_ext s s₁ work i (i + 1) (λ k a b. f.behind k (omega arith)) i (le_refl i) (omega arith))

pub front_held : {s s₁ : List ℕ} {work i d n : ℕ} {e end : End} → HeadAsked s work i (i + 1) d e → Front s s₁ work i (i + 1) d n e end → ValidRecord (record_in s₁ work i)
front_held {s} {s₁} {work} {i} q f = (held_ext s s₁ work i (i + 1) (λ k a b. f.behind k (omega arith)) q.held).each i (le_refl i) (omega arith)

module _ {s : List ℕ} {work i d : ℕ} {e : End} (q : HeadAsked s work i (i + 1) d e) where
  pub single_written : {s₁ s₂ s₃ : List ℕ} {b n : ℕ} {end : End} → Front s s₁ work i (i + 1) d n e end → 64 ≤ e.at → b ≡ byte_at d (tail_in s₁ work i)
      → s₂ ≡ set_le64 s₁ end.at 1 → s₃ ≡ set (sets (set s₂ (end.at + 8) b) (end.at + 9) (bytes64 (end.at + 17 - 64))) (end.at + 17) 1
      → Front s s₃ work i (i + 1) d n e end × Holds s₃ end.at (single_bytes (byte_at d (tail_in s work i)) (end.at - 64 + 17))
  single_written {s₁} {s₂} {s₃} {b} {n} {end} f from eb e₂ e₃ =
      let is = linked s₁ s₂ s₃ end.at b e₂ e₃ (omega (arith, f.at)) in
      let long = single_length b (end.at - 64 + 17) in
      let room = front_room f q in
      let same : b ≡ byte_at d (tail_in s work i) = eb ∙ ap (byte_at d) (front_tail f) in
      (front_then f s₃ (single_bytes b (end.at - 64 + 17)) is (omega arith), subst (λ (x : ℕ). Holds s₃ end.at (single_bytes x (end.at - 64 + 17))) same (stands_there f q s₃ (single_bytes b (end.at - 64 + 17)) is (omega arith)))

  pub leaf_written : {s₁ s₂ : List ℕ} {n : ℕ} {end : End} → Front s s₁ work i (i + 1) d n e end → s₂ ≡ set_le64 s₁ end.at 0
      → Front s s₂ work i (i + 1) d n e end × Holds s₂ end.at (bytes64 0)
  leaf_written {s₁} {s₂} {n} {end} f e₂ =
      let is : s₂ ≡ sets s₁ end.at (bytes64 0) = e₂ ∙ set_le64_sets s₁ end.at 0 in
      let long = length_bytes64 0 in
      let room = front_room f q in
      (front_then f s₂ (bytes64 0) is (omega arith), stands_there f q s₂ (bytes64 0) is (omega arith))

-- ── one node above all below it ──

pub single_short : {s : List ℕ} {work i : ℕ} → Held s work i (i + 1) → length (tail_in s work i).entry.path ≤ 16
single_short {i = i} h = (h.each i (le_refl i) (omega arith)).tail.short

same_tail : (t u : Tail) → Mem u (t ∷ []) → u ≡ t
same_tail t u m = only m

run_single : (d : ℕ) (t : Tail) → Run d (t ∷ []) → d < length t.entry.path → Run (suc d) (t ∷ [])
run_single d t r h = record {
  ordered = r.ordered;
  sound = r.sound;
  long = λ u m. subst (λ (x : Tail). suc d ≤ length x.entry.path) (sym (same_tail t u m)) h;
  agree = λ u v m n k l. ap (λ (x : Tail). get_or x.entry.path k 0) (same_tail t u m ∙ sym (same_tail t v n));
}

module _ {s : List ℕ} {work i d : ℕ} {e : End} {left : ℕ} (q : SpanAsked s work i (i + 1) d e left) where
  pub single_head : HeadAsked s work i (i + 1) d e
  single_head = span_head q (omega arith)

  pub single_long : d ≤ length (tail_in s work i).entry.path
  single_long = q.run.long (tail_in s work i) (tails_mem s work i (i + 1) i (le_refl i) (omega arith))

  -- the tail ends here
  pub single_leaf : length (tail_in s work i).entry.path ≡ d → {s₁ : List ℕ} {r : End} → LeafWritten s s₁ work i d e r → SpanWritten s s₁ work i (i + 1) d e left r
  single_leaf ends {s₁} {r} w =
      leaf_stands w.front (node_of s work i (i + 1) d left) r (node_lists left d (tails_in s work i (i + 1)))
      (ap (λ (ts : List Tail). (group_node left d ts).children) (single_tail s work i) ∙ ends_node d (tail_in s work i) ends left) w.table w.at w.nodes w.entries q.counted_nodes q.counted

  -- the tail goes on
  module _ (long : d < length (tail_in s work i).entry.path) {m : ℕ} (deep : left ≡ suc m) {s₁ : List ℕ} {r : End} (w : SingleWritten s s₁ work i d e r) where
    tails₁ : tails_in s₁ work i (i + 1) ≡ tail_in s work i ∷ []
    tails₁ = tails_ext s s₁ work i (i + 1) (λ k a b. w.front.behind k (omega arith)) ∙ single_tail s work i

    node₁ : node_of s₁ work i (i + 1) (d + 1) m ≡ group_node m (suc d) (tail_in s work i ∷ [])
    node₁ = (λ j. group_node m (add-one d j) (tails₁ j))

    weights₁ : weights (d + 1) (tails_in s₁ work i (i + 1)) ≡ weights (suc d) (tail_in s work i ∷ [])
    weights₁ = (λ j. weights (add-one d j) (tails₁ j))

    children : (node_of s work i (i + 1) d left).children
        ≡ more (byte_at d (tail_in s work i)) (node_of s₁ work i (i + 1) (d + 1) m).lists (node_of s₁ work i (i + 1) (d + 1) m).children leaf
    children =
        (λ j. (group_node (deep j) d (single_tail s work i j)).children) ∙ goes_node d (tail_in s work i) long m
        ∙ (λ j. more (byte_at d (tail_in s work i)) (sym node₁ j).lists (sym node₁ j).children leaf)

    nodes : forest_nodes (node_of s work i (i + 1) d left).children ≡ suc (forest_nodes (node_of s₁ work i (i + 1) (d + 1) m).children + 0)
    nodes = ap forest_nodes children

    few : entries_of (group_lists d (tails_in s work i (i + 1))) + weights (d + 1) (tails_in s₁ work i (i + 1)) ≤ weights d (tails_in s work i (i + 1))
    few =
        let a : group_weights (suc d) (groups d (below d (tails_in s work i (i + 1)))) ≡ weights (suc d) (tail_in s work i ∷ []) =
        ap (λ (ts : List Tail). group_weights (suc d) (groups d (below d ts))) (single_tail s work i) ∙ goes_weight d (tail_in s work i) long in
        omega (arith, w.front.few, weights₁)

    pub next_asked : SpanAsked s₁ work i (i + 1) (d + 1) r m
    next_asked =
        let f = w.front in
        let z = sizes (group_lists d (tails_in s work i (i + 1))) in
        let r₀ : Run d (tail_in s work i ∷ []) = subst (Run d) (single_tail s work i) q.run in
        record {
          held = held_ext s s₁ work i (i + 1) (λ k a b. f.behind k (omega arith)) q.held;
          memory = omega (arith, f.long, q.memory);
          run = subst (Run (d + 1)) (sym tails₁) (subst (λ (n : ℕ). Run n (tail_in s work i ∷ [])) (sym (add-one d)) (run_single d (tail_in s work i) r₀ long));
          depth = omega (arith, q.depth);
          from = omega (arith, w.at, f.at, q.from);
          counted_nodes = omega (arith, w.at, w.nodes, f.at, f.nodes, q.counted_nodes);
          counted = omega (arith, w.at, w.entries, f.at, f.entries, q.counted);
          room = omega (arith, w.at, f.at, nodes, few, q.room);
        }

    pub single_on : {s₂ : List ℕ} {r₂ : End} → SpanWritten s₁ s₂ work i (i + 1) (d + 1) r m r₂ → SpanWritten s s₂ work i (i + 1) d e left r₂
    single_on {s₂} {r₂} v =
        single_stands w.front (node_of s work i (i + 1) d left) (node_of s₁ work i (i + 1) (d + 1) m) (weights (d + 1) (tails_in s₁ work i (i + 1))) (byte_at d (tail_in s work i)) r r₂ s₂
        (node_lists left d (tails_in s work i (i + 1))) children q.from w.table few w.at w.nodes w.entries v
