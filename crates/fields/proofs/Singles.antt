-- Nodes with one child and no lists read one as another. Assumes nothing.
use Prim.Native.Nat.{ℕ, ◌+◌, ◌*◌, ◌-◌, ◌≤◌, ◌<◌}
use native.Mathlib.Omega.{arith}
use mathlib.Core.Bool.{true}
use mathlib.Core.List.{List}
use mathlib.Core.Path.{◌∙◌, ◌≡◌, ap, refl, subst, sym}
use lib.ListN.{get_or, length}
use Rattle.words.specs.Words.{le64}
use Rattle.image_format.proofs.Heads.{head_lists, list_past, lists_ready}
use Rattle.image_format.proofs.Nodes.{child_node, end_sparse, node_done, node_table, run_end, run_on, run_refused, run_start}
use Rattle.image_format.proofs.Tables.{open_ready, slot_arrival}
use Rattle.image_format.proofs.Entries.{fault_end, fault_on}
use Rattle.kinds.specs.Kinds.{fits}
use Rattle.image_format.specs.Reading.{Step, Table, done, fault, head, open_table, read_child, read_head, read_node, sparse_table, table}
use Rattle.fields.specs.Singles.{SingleBeforeChild, SinglesBelow}

fits_one : fits 3 1 ≡ true
unfolding fits
fits_one = refl

module _ (s : List ℕ) (at : ℕ) (t : SingleBeforeChild s at) where
  abbrev the_table : Table
  the_table = sparse_table 3 (at + 25) 1

  single_head : head 3 (at + 25) 0 ≡ read_head s at
  single_head =
      subst (λ (k : ℕ). head k (at + 25) 0 ≡ read_head s at) t.head.bare.kind
      (lists_ready s (get_or s at 0) (at + 1) (at + 9) 0 (at + 17) 0 (at + 25) 0
      (list_past s (at + 1) (at + 9) 0 (sym t.head.bare.prefixes) (omega arith) (omega (arith, t.within)))
      (list_past s (at + 9) (at + 17) 0 (sym t.head.bare.chunks) (omega arith) (omega (arith, t.within)))
      (list_past s (at + 17) (at + 25) 0 (sym t.head.suffixes) (omega arith) (omega (arith, t.within))) ∙
      head_lists s at (omega (arith, t.within)) (omega (arith, t.head.bare.kind)) (omega (arith, t.head.bare.kind)))

  single_table : table the_table ≡ open_table s 3 (at + 25)
  single_table =
      open_ready s 3 (at + 25) (omega arith) 1 0 (sym t.head.count) (omega (arith, t.within)) fits_one
      (fault_end s (at + 25 + 8) 1 1 (omega arith) ∙ fault_on s (at + 25 + 8) 1 0 (omega arith) (omega arith) (omega (arith, t.within))) refl

  single_child : (rd : ℕ → Step) → rd (at + 43) ≡ read_child s rd the_table 0 (at + 42)
  single_child rd =
      let e : at + 43 ≡ at + 42 + 1 = omega arith in
      let o : at + 25 + 8 + 0 * 9 + 1 ≡ at + 34 = omega arith in
      ap rd e ∙
      child_node s rd the_table 0 (at + 42) (le64 s (at + 25 + 8 + 0 * 9 + 1)) (slot_arrival s the_table 0 (omega arith) refl)
      (ap (le64 s) o ∙ t.offset) (omega (arith, t.within)) t.flag

  module _ (left : ℕ) (h : left ≡ 0 → ⊥) where
    pub single_refused : (c : ℕ) → fault c ≡ read_node s (left - 1) (at + 43) → fault c ≡ read_node s left at
    single_refused c e =
        let rd = read_node s (left - 1) in
        let g : at + 42 ≡ the_table.start = omega arith in
        node_table s left at h c 3 (at + 25) 0 the_table single_head single_table
        (run_refused s rd the_table 1 0 the_table.start 0 0 0 c (omega arith) (subst (λ (x : ℕ). fault c ≡ read_child s rd the_table 0 x) g (e ∙ single_child rd)) ∙
        run_start s rd the_table)

    pub single_right : (next nodes entries : ℕ) → done next 1 nodes entries ≡ read_node s (left - 1) (at + 43) → done next 1 (nodes + 1) entries ≡ read_node s left at
    single_right next nodes entries e =
        let rd = read_node s (left - 1) in
        let g : at + 42 ≡ the_table.start = omega arith in
        let n : 0 + nodes + 1 ≡ nodes + 1 = omega arith in
        let m : 0 + (0 + entries) ≡ entries = omega arith in
        subst (λ (x : ℕ). done next 1 (nodes + 1) x ≡ read_node s left at) m
        (subst (λ (x : ℕ). done next 1 x (0 + (0 + entries)) ≡ read_node s left at) n
        (node_done s left at h 3 (at + 25) 0 the_table next 1 (0 + nodes) (0 + entries) single_head single_table
        (end_sparse the_table next (0 + 1) (0 + nodes) (0 + entries) (omega arith) ∙
        run_end s rd the_table 1 (0 + 1) next (0 + 1) (0 + nodes) (0 + entries) (omega arith) ∙
        run_on s rd the_table 1 0 the_table.start 0 0 0 next 1 nodes entries (omega arith) (subst (λ (x : ℕ). done next 1 nodes entries ≡ read_child s rd the_table 0 x) g (e ∙ single_child rd)) ∙
        run_start s rd the_table)))

-- no such nodes
pub run_none : (s : List ℕ) (at left : ℕ) → at ≤ length s → SinglesBelow s at left 0
run_none s at left h = record {
  few = omega arith;
  within = omega arith;
  refused = λ c e. here (λ (x : Step). fault c ≡ x) e;
  right = λ next nodes entries e. subst (λ (x : ℕ). done next 1 x entries ≡ read_node s left at) (sums nodes) (here (λ (x : Step). done next 1 nodes entries ≡ x) e);
}
  where
    as_many : left - 0 ≡ left
    as_many = omega arith

    as_far : at + 43 * 0 ≡ at
    as_far = omega arith

    sums : (a : ℕ) → a ≡ a + 0
    sums a = omega arith

    here : (P : Step → Type 0) → P (read_node s (left - 0) (at + 43 * 0)) → P (read_node s left at)
    here P e = subst (λ (x : ℕ). P (read_node s left x)) as_far (subst (λ (x : ℕ). P (read_node s x (at + 43 * 0))) as_many e)

-- one such node more
pub run_more : (s : List ℕ) (at left k : ℕ) → SinglesBelow s at left k → k < left → SingleBeforeChild s (at + 43 * k) → SinglesBelow s at left (k + 1)
run_more s at left k r l t = record {
  few = omega arith;
  within = omega (arith, t.within);
  refused = λ c e. r.refused c (single_refused s (at + 43 * k) t (left - k) (omega arith) c (there (λ (x : Step). fault c ≡ x) e));
  right = λ next nodes entries e. subst (λ (x : ℕ). done next 1 x entries ≡ read_node s left at) (sums nodes) (r.right next (nodes + 1) entries (single_right s (at + 43 * k) t (left - k) (omega arith) next nodes entries (there (λ (x : Step). done next 1 nodes entries ≡ x) e)));
}
  where
    further : at + 43 * (k + 1) ≡ at + 43 * k + 43
    further = omega arith

    fewer : left - (k + 1) ≡ left - k - 1
    fewer = omega arith

    sums : (a : ℕ) → a + 1 + k ≡ a + (k + 1)
    sums a = omega arith

    there : (P : Step → Type 0) → P (read_node s (left - (k + 1)) (at + 43 * (k + 1))) → P (read_node s (left - k - 1) (at + 43 * k + 43))
    there P e = subst (λ (x : ℕ). P (read_node s (left - k - 1) x)) further (subst (λ (x : ℕ). P (read_node s x (at + 43 * (k + 1)))) fewer e)
