-- `index_rule::index_rule` meets its contract: the root, its fronts, and its children. Assumes nothing.
use native.Mathlib.Omega.{arith}
use mathlib.Core.Path.{sym, ◌∙◌}
use borrow.Author.Tests.{eqb-true}
use Rattle.image_walk.proofs.Root.{layout_some, root_laid}
use Rattle.image_conflicts.proofs.Root.{root_found}
use Rattle.index_rule.proofs.Whole.{root_asked, root_parts, root_table, rule_by_children, rule_empty, rule_not_node}
use Rattle.index_rule.proofs.index_rule.Goals as goal

pub is_empty-requires : goal.is_empty-requires
is_empty-requires c = layout_some c.args.s.now c.requires

pub returns-then-is_empty : goal.returns-then-is_empty
returns-then-is_empty c = rule_empty c.args.s.now (eqb-true _ _ (sym c.is_empty.ensures ∙ c.if-is_empty.true))

pub node_at-root-requires : goal.node_at-root-requires
node_at-root-requires c =
    let a = c.args in
    let h = root_found a.s.now c.type_inv.s (omega arith) c.requires _ c.is_empty.ensures c.if-is_empty.false in
    root_laid a.s.now h

pub node_right-requires : goal.node_right-requires
node_right-requires c =
    let a = c.args in
    let h = root_found a.s.now c.type_inv.s (omega arith) c.requires _ c.is_empty.ensures c.if-is_empty.false in
    let n = c.node_at-root in
    (root_parts a.s.now h n.result n.ensures, rw c.new-lists.ensures (omega arith))

pub returns-then-not-node_right : goal.returns-then-not-node_right
returns-then-not-node_right c =
    let a = c.args in
    let h = root_found a.s.now c.type_inv.s (omega arith) c.requires _ c.is_empty.ensures c.if-is_empty.false in
    let n = c.node_at-root in
    let v = c.node_right in
    rule_not_node a.s.now h n.result n.ensures v.result v.ensures.says c.if-not-node_right.true

pub root_fronts-count-requires : goal.root_fronts-count-requires
root_fronts-count-requires c =
    let a = c.args in
    let h = root_found a.s.now c.type_inv.s (omega arith) c.requires _ c.is_empty.ensures c.if-is_empty.false in
    let n = c.node_at-root in
    (root_table a.s.now h n.result n.ensures, omega arith)

pub children_right-requires : goal.children_right-requires
children_right-requires c =
    let a = c.args in
    let h = root_found a.s.now c.type_inv.s (omega arith) c.requires _ c.is_empty.ensures c.if-is_empty.false in
    let n = c.node_at-root in
    let f = c.root_fronts-count in
    (root_asked a.s.now h n.result n.ensures f.new.fronts f.result f.ensures, omega (arith, rw c.new-lists.ensures at c.node_right.ensures.lent.same_length))

pub returns : goal.returns
returns c =
    let a = c.args in
    let h = root_found a.s.now c.type_inv.s (omega arith) c.requires _ c.is_empty.ensures c.if-is_empty.false in
    let n = c.node_at-root in
    let f = c.root_fronts-count in
    let v = c.node_right in
    let x = c.children_right in
    rule_by_children a.s.now h n.result n.ensures v.result v.ensures.says c.if-not-node_right.false f.new.fronts f.result f.ensures x.new.fronts x.result x.ensures.says
