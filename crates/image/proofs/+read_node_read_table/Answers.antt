-- `image::read_node` and `image::read_table`, which call each other, meet their contracts: the levels left fall. Assumes nothing.
use native.Mathlib.Omega.{arith}
use Prim.Native.Nat.{ℕ, ◌+◌, ◌*◌, ◌≤◌}
use mathlib.Core.List.{List}
use lib.ListN.{length}
use mathlib.Core.Path.{◌≡◌, ◌∙◌, ap, refl, subst, sym}
use Rattle.image_format.proofs.EndedWell.{head_inv}
use Rattle.image_format.proofs.Heads.{head_bound}
use Rattle.image_format.proofs.Nodes.{child_by, child_sum, node_done, node_head, node_open, node_table, node_zero, run_end, run_on, run_refused, run_skip, run_start, run_to, table_sum, turn_there}
use Rattle.image_format.proofs.Tables.{open_within}
use Rattle.fields.specs.Answers.{due_of, step_of, table_in}
use Rattle.fields.proofs.Passed.{passed}
use Rattle.image_format.specs.Reading.{Step, Table, child, done, gap, head, none_due, open_table, read_head, read_node, read_table, table, wrong}
use Rattle.image.proofs.+read_node_read_table.Goals as goal

-- a table of the same bytes is read alike
moved : {s s' : List ℕ} (left : ℕ) (t : Table) {o : Step} → s ≡ s' → o ≡ read_table s (read_node s left) t → o ≡ read_table s' (read_node s' left) t
moved left t {o} e h = subst (λ (x : List ℕ). o ≡ read_table x (read_node x left) t) e h

-- a node and what stands below it end within the image
node_sum : (s : List ℕ) (at kind next entries : ℕ) (t : Table) (left end met nodes more : ℕ) → head kind next entries ≡ read_head s at → table t ≡ open_table s kind next → done end met nodes more ≡ read_table s (read_node s left) t
    → (at + 25 + 24 * entries + nodes + more ≤ end) × (end ≤ length s)
node_sum s at kind next entries t left end met nodes more h o u =
    let a = head_bound s at kind next entries h in
    let b = open_within s kind next t o in
    let c = table_sum s left t end met nodes more b.0.start u in
    (omega arith, omega arith)

pub read_node-returns-then-levels-eq0 : goal.read_node-returns-then-levels-eq0
read_node-returns-then-levels-eq0 t c = c.singles_below-singles.ensures.refused 15 (node_zero _ _ _ c.if-levels-eq0.true)

pub read_node-returns-in_err-head : goal.read_node-returns-in_err-head
read_node-returns-in_err-head t c =
    ap step_of (passed _ _ c.from_residual.ensures.1) ∙
    c.singles_below-singles.ensures.refused _ (node_head _ _ _ c.if-levels-eq0.false _ c.in_err-head.ensures)

pub read_node-open_table-requires : goal.read_node-open_table-requires
read_node-open_table-requires t c = (head_inv _ _ _ _ _ c.in_ok-head.ensures).4

pub read_node-returns-in_err-children : goal.read_node-returns-in_err-children
read_node-returns-in_err-children t c =
    ap step_of (passed _ _ c.from_residual-in_err-children.ensures.1) ∙
    c.singles_below-singles.ensures.refused _ (node_open _ _ _ c.if-levels-eq0.false _ _ _ _ c.in_ok-head.ensures c.in_err-children.ensures.table)

pub read_node-returns-in_err-past : goal.read_node-returns-in_err-past
read_node-returns-in_err-past t c =
    ap step_of (passed _ _ c.from_residual-in_err-past.ensures.1) ∙
    c.singles_below-singles.ensures.refused _
    (node_table _ _ _ c.if-levels-eq0.false _ _ _ _ _ c.in_ok-head.ensures c.in_ok-children.ensures.table (moved _ _ c.in_ok-children.ensures.bytes c.in_err-past.ensures))

pub read_node-overflow_add-result : goal.read_node-overflow_add-result
read_node-overflow_add-result t c =
    omega (arith, node_sum _ _ _ _ _ _ _ _ _ _ _ c.in_ok-head.ensures c.in_ok-children.ensures.table (moved _ _ c.in_ok-children.ensures.bytes c.in_ok-past.ensures))

pub read_node-overflow_add-result-2 : goal.read_node-overflow_add-result-2
read_node-overflow_add-result-2 t c =
    omega (arith, node_sum _ _ _ _ _ _ _ _ _ _ _ c.in_ok-head.ensures c.in_ok-children.ensures.table (moved _ _ c.in_ok-children.ensures.bytes c.in_ok-past.ensures))

pub read_node-overflow_add-result-3 : goal.read_node-overflow_add-result-3
read_node-overflow_add-result-3 t c =
    omega (arith, node_sum _ _ _ _ _ _ _ _ _ _ _ c.in_ok-head.ensures c.in_ok-children.ensures.table (moved _ _ c.in_ok-children.ensures.bytes c.in_ok-past.ensures))

pub read_node-returns : goal.read_node-returns
read_node-returns t c =
    c.singles_below-singles.ensures.right _ _ _
    (node_done _ _ _ c.if-levels-eq0.false _ _ _ _ _ _ _ _ c.in_ok-head.ensures c.in_ok-children.ensures.table (moved _ _ c.in_ok-children.ensures.bytes c.in_ok-past.ensures))

pub read_table-loop-i-init : goal.read_table-loop-i-init
read_table-loop-i-init t c = (omega arith, omega arith, omega arith, run_start _ _ (table_in c.args.c))

pub read_table-returns-in_err-turn_at : goal.read_table-returns-in_err-turn_at
read_table-returns-in_err-turn_at t c =
    ap step_of (passed _ _ c.from_residual.ensures.1) ∙
    run_refused _ _ (table_in c.args.c) _ _ _ _ _ _ _ c.next_turn-turn.ensures.last (child_by _ _ (table_in c.args.c) _ _ (wrong _) c.in_err-turn_at.ensures) ∙
    run_to _ _ (table_in c.args.c) _ _ _ _ _ _ c.next_turn-turn.ensures ∙ c.loop-i.invariant.3

pub read_table-loop-i-preserved-in-Nothing : goal.read_table-loop-i-preserved-in-Nothing
read_table-loop-i-preserved-in-Nothing t c = (
  omega (arith, c.next_turn-turn.ensures.last),
  omega arith,
  omega arith,
  run_skip _ _ (table_in c.args.c) _ _ _ _ _ _ _ c.next_turn-turn.ensures.last (child_by _ _ (table_in c.args.c) _ _ none_due (ap due_of (sym c.in-Nothing.is) ∙ c.in_ok-turn_at.ensures)) ∙
      run_to _ _ (table_in c.args.c) _ _ _ _ _ _ c.next_turn-turn.ensures ∙ c.loop-i.invariant.3,
)

pub read_table-loop-i-preserved-in-Gap : goal.read_table-loop-i-preserved-in-Gap
read_table-loop-i-preserved-in-Gap t c =
    let g = ap due_of (sym c.in-Gap.is) ∙ c.in_ok-turn_at.ensures in
    let h = turn_there _ (table_in c.args.c) _ _ gap (sym g) tt in (
      omega (arith, c.next_turn-turn.ensures.last),
      omega arith,
      omega arith,
      run_skip _ _ (table_in c.args.c) _ _ _ _ _ _ _ c.next_turn-turn.ensures.last (child_by _ _ (table_in c.args.c) _ _ gap g) ∙
          run_to _ _ (table_in c.args.c) _ _ _ _ _ _ c.next_turn-turn.ensures ∙ c.loop-i.invariant.3,
    )

pub read_table-read_node-requires : goal.read_table-read_node-requires
read_table-read_node-requires t c =
    let h = turn_there _ (table_in c.args.c) _ _ child (sym (ap due_of (sym c.in-Child.is) ∙ c.in_ok-turn_at.ensures)) tt in
    (omega arith, omega arith)

pub read_table-returns-in_err-child-in-Child : goal.read_table-returns-in_err-child-in-Child
read_table-returns-in_err-child-in-Child t c =
    ap step_of (passed _ _ c.from_residual-in_err-child-in-Child.ensures.1) ∙
    run_refused _ _ (table_in c.args.c) _ _ _ _ _ _ _ c.next_turn-turn.ensures.last
    (c.in_err-child-in-Child.ensures ∙ child_by _ _ (table_in c.args.c) _ _ child (ap due_of (sym c.in-Child.is) ∙ c.in_ok-turn_at.ensures)) ∙
    run_to _ _ (table_in c.args.c) _ _ _ _ _ _ c.next_turn-turn.ensures ∙ c.loop-i.invariant.3

pub read_table-overflow_add-past-in-Child-2 : goal.read_table-overflow_add-past-in-Child-2
read_table-overflow_add-past-in-Child-2 t c =
    let u = child_sum _ _ (table_in c.args.c) _ _ _ _ _ _ c.loop-i.invariant.1
    (c.in_ok-child-in-Child.ensures ∙ child_by _ _ (table_in c.args.c) _ _ child (ap due_of (sym c.in-Child.is) ∙ c.in_ok-turn_at.ensures)) in
    omega arith

pub read_table-overflow_add-past-in-Child-3 : goal.read_table-overflow_add-past-in-Child-3
read_table-overflow_add-past-in-Child-3 t c =
    let u = child_sum _ _ (table_in c.args.c) _ _ _ _ _ _ c.loop-i.invariant.1
    (c.in_ok-child-in-Child.ensures ∙ child_by _ _ (table_in c.args.c) _ _ child (ap due_of (sym c.in-Child.is) ∙ c.in_ok-turn_at.ensures)) in
    omega arith

pub read_table-loop-i-preserved : goal.read_table-loop-i-preserved
read_table-loop-i-preserved t c =
    let g = c.in_ok-child-in-Child.ensures ∙ child_by _ _ (table_in c.args.c) _ _ child (ap due_of (sym c.in-Child.is) ∙ c.in_ok-turn_at.ensures) in
    let u = child_sum _ _ (table_in c.args.c) _ _ _ _ _ _ c.loop-i.invariant.1 g in (
      omega (arith, c.next_turn-turn.ensures.last),
      omega arith,
      omega arith,
      run_on _ _ (table_in c.args.c) _ _ _ _ _ _ _ _ _ _ c.next_turn-turn.ensures.last g ∙
          run_to _ _ (table_in c.args.c) _ _ _ _ _ _ c.next_turn-turn.ensures ∙ c.loop-i.invariant.3,
    )

pub read_table-returns : goal.read_table-returns
read_table-returns t c = c.all_met.ensures (table_in c.args.c) refl ∙ run_end _ _ (table_in c.args.c) _ _ _ _ _ _ c.loop-i-test.false ∙ c.loop-i.invariant.3
