-- `forest_rule::leaf_right` meets its contract: the prefix of a leaf against the lists of its front. Assumes nothing.
use Prim.Native.Nat.{◌≤◌}
use native.Mathlib.Omega.{arith}
use mathlib.Core.Path.{◌∙◌, ap, sym}
use lib.ListN.{length}
use Rattle.location_lists.specs.declared.Lists.{Lists}
use Rattle.single_runs.proofs.RunLaws.{leaf_parts, leaf_chunks, leaf_prefixes, leaf_says, leaf_valid, only_laid}
use Rattle.forest_rule.proofs.leaf_right.Goals as goal

pub node_at-c-requires : goal.node_at-c-requires
node_at-c-requires c = let a = c.args in only_laid a.s.now a.tables.table _ c.in_ok-entry.ensures c.requires.0

pub node_at-f-requires : goal.node_at-f-requires
node_at-f-requires c = let a = c.args in only_laid a.s.now a.tables.other _ c.in_ok-front.ensures c.requires.1

pub add_front-requires : goal.add_front-requires
add_front-requires c =
    let a = c.args in
    let m = c.node_at-c in
    let n = c.node_at-f in
    let k = leaf_chunks a.s.now a.tables _ _ c.in_ok-entry.ensures c.in_ok-front.ensures m.result n.result m.ensures n.ensures c.requires.1 in
    (omega (arith, ap (λ (x : Lists). x.count) c.clear.ensures, ap (λ (x : Lists). length x.each.now) c.clear.ensures, c.requires.2), omega (arith, k.0), omega (arith, k.1))

pub is_union-requires : goal.is_union-requires
is_union-requires c =
    let a = c.args in
    let m = c.node_at-c in
    let n = c.node_at-f in
    let l = c.clear in
    let z = ap (λ (x : Lists). x.count) l.ensures in
    let k : 2 ≤ length l.new.self.each.now = omega (arith, ap (λ (x : Lists). length x.each.now) l.ensures, c.requires.2) in
    (leaf_prefixes a.s.now a.tables _ _ c.in_ok-entry.ensures c.in_ok-front.ensures m.result n.result m.ensures n.ensures c.requires.0, rw c.add_front.ensures (leaf_valid a.s.now a.tables _ _ c.in_ok-entry.ensures c.in_ok-front.ensures m.result n.result m.ensures n.ensures l.new.self z k c.requires.1))

pub returns-clause-says : goal.returns-clause-says
returns-clause-says c =
    let a = c.args in
    let m = c.node_at-c in
    let n = c.node_at-f in
    let l = c.clear in
    let u = c.is_union in
    let z = ap (λ (x : Lists). x.count) l.ensures in
    let k : 2 ≤ length l.new.self.each.now = omega (arith, ap (λ (x : Lists). length x.each.now) l.ensures, c.requires.2) in
    leaf_says a.s.now a.tables _ _ c.in_ok-entry.ensures c.in_ok-front.ensures m.result n.result m.ensures n.ensures l.new.self z k c.if-entry-front.false (leaf_parts _ (sym c.is_leaf.ensures ∙ c.if-not-is_leaf.false)) c.if-f-ne0.false u.result (rw c.add_front.ensures at u.ensures.says)
