-- `collecting::collect_all_substrings` and `collecting::collect_children`, which call each other, meet their contracts: the levels left fall.
-- Assumes nothing.
use native.Mathlib.Omega.{arith}
use Rattle.collecting.proofs.Callers.{standing_laid}
use Rattle.collecting.proofs.Nodes.{prefixes_within, chunks_within, siblings_of, collected_leaf, collected_below, collected_over}
use Rattle.collecting.proofs.Following.{followed_stands, followed_collected}
use Rattle.collecting.proofs.Passing.{passing_none, passing_done, passing_empty, passing_stands, passing_child, passing_over}
use Rattle.collecting.proofs.+collect_all_substrings_collect_children.Goals.{collect_children-in-Some+in_ok-collect_all_substrings, collect_children-in_default}
use Rattle.collecting.proofs.+collect_all_substrings_collect_children.Goals as goal

pub collect_all_substrings-take_both-requires : goal.collect_all_substrings-take_both-requires
collect_all_substrings-take_both-requires t c =
    let ends = c.in_ok-end.ensures in
    let start = c.requires in
    let there = standing_laid (followed_stands ends start) in
    (prefixes_within ends.parts there, chunks_within ends.parts there)

pub collect_all_substrings-returns-in_err-take_both : goal.collect_all_substrings-returns-in_err-take_both
collect_all_substrings-returns-in_err-take_both t c =
    let ends = c.in_ok-end.ensures in
    rw c.from_residual-in_err-take_both.ensures (followed_collected ends (collected_over ends.parts c.in_err-take_both.ensures))

pub collect_all_substrings-returns-then-end-eq0 : goal.collect_all_substrings-returns-then-end-eq0
collect_all_substrings-returns-then-end-eq0 t c =
    let ends = c.in_ok-end.ensures in
    followed_collected ends (collected_leaf ends.parts c.if-end-eq0.true c.in_ok-take_both.ensures)

pub collect_all_substrings-collect_children-requires : goal.collect_all_substrings-collect_children-requires
collect_all_substrings-collect_children-requires t c =
    let ends = c.in_ok-end.ensures in
    (omega (arith, ends.fewer), siblings_of ends.parts (followed_stands ends c.requires) c.if-end-eq0.false)

pub collect_all_substrings-returns : goal.collect_all_substrings-returns
collect_all_substrings-returns t c =
    let ends = c.in_ok-end.ensures in
    followed_collected ends (collected_below ends.parts c.if-end-eq0.false c.in_ok-take_both.ensures c.collect_children.ensures)

pub collect_children-loop-j-init : goal.collect_children-loop-j-init
collect_children-loop-j-init t c = passing_none _ _ _ c.if-places.false

pub collect_children-collect_all_substrings-requires : goal.collect_children-collect_all_substrings-requires
collect_children-collect_all_substrings-requires t c =
    let e = c.in-Some.ensures in
    (omega arith, passing_stands c.loop-j.invariant (omega arith) e c.requires)

pub collect_children-returns-in_err-collect_all_substrings : goal.collect_children-returns-in_err-collect_all_substrings
collect_children-returns-in_err-collect_all_substrings t c = rw c.from_residual.ensures (passing_over c.loop-j.invariant (omega arith) c.in-Some.ensures c.in_err-collect_all_substrings.ensures)

pub collect_children-loop-j-preserved : goal.collect_children-loop-j-preserved
collect_children-loop-j-preserved t c =
    elim c.match-slot_in.branch [
      | collect_children-in-Some+in_ok-collect_all_substrings w ↦ rw (w.places-is) (passing_child c.loop-j.invariant (omega arith) w.in-Some.ensures w.in_ok-collect_all_substrings.ensures)
      | collect_children-in_default w ↦ rw (w.places-is) (passing_empty c.loop-j.invariant (omega arith) w.in_default.ensures)
    ]

pub collect_children-returns : goal.collect_children-returns
collect_children-returns t c = passing_done c.loop-j.invariant c.loop-j-test.false
