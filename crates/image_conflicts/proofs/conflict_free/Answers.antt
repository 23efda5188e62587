-- `image_conflicts::conflict_free` meets its contract: the root's suffixes in line, and the chunks below it. Assumes nothing.
use native.Mathlib.Omega.{arith}
use mathlib.Core.Path.{sym, ◌∙◌}
use borrow.Author.Tests.{eqb-true}
use Rattle.image_walk.proofs.Root.{layout_some, root_laid}
use Rattle.image_conflicts.proofs.Root.{empty_free, root_found, root_within, not_in_line, root_lined, root_asked, root_says}
use Rattle.image_conflicts.proofs.conflict_free.Goals as goal

pub is_empty-requires : goal.is_empty-requires
is_empty-requires c = layout_some c.args.s.now c.requires.0

pub returns-then-is_empty : goal.returns-then-is_empty
returns-then-is_empty c = empty_free c.args.s.now (eqb-true _ _ (sym c.is_empty.ensures ∙ c.if-is_empty.true))

pub node_at-root-requires : goal.node_at-root-requires
node_at-root-requires c =
    let a = c.args in
    let h = root_found a.s.now c.type_inv.s (omega arith) c.requires.0 _ c.is_empty.ensures c.if-is_empty.false in
    root_laid a.s.now h

pub invariant_of-line : goal.invariant_of-line
invariant_of-line c =
    let s = c.args.s.now in
    let h = root_found s c.type_inv.s (omega arith) c.requires.0 _ c.is_empty.ensures c.if-is_empty.false in
    record { within = root_within s h c.requires.1 c.node_at-root.ensures }

pub invariant_of-children_due : goal.invariant_of-children_due
invariant_of-children_due c =
    let s = c.args.s.now in
    let h = root_found s c.type_inv.s (omega arith) c.requires.0 _ c.is_empty.ensures c.if-is_empty.false in
    record { lined = root_lined s h c.requires.1 c.node_at-root.ensures c.in_line.ensures c.if-in_line.true }

pub children_due-requires : goal.children_due-requires
children_due-requires c =
    let s = c.args.s.now in
    let h = root_found s c.type_inv.s (omega arith) c.requires.0 _ c.is_empty.ensures c.if-is_empty.false in
    root_asked s h c.requires.1 c.node_at-root.ensures

pub returns-then-in_line : goal.returns-then-in_line
returns-then-in_line c =
    let s = c.args.s.now in
    let h = root_found s c.type_inv.s (omega arith) c.requires.0 _ c.is_empty.ensures c.if-is_empty.false in
    c.is_some.ensures ∙ root_says s h c.requires.1 c.node_at-root.ensures c.in_line.ensures c.if-in_line.true c.children_due.ensures.says

pub returns-else-in_line : goal.returns-else-in_line
returns-else-in_line c =
    let s = c.args.s.now in
    let h = root_found s c.type_inv.s (omega arith) c.requires.0 _ c.is_empty.ensures c.if-is_empty.false in
    c.if-in_line.false ∙ not_in_line s h c.requires.1 c.node_at-root.ensures c.in_line.ensures c.if-in_line.false
