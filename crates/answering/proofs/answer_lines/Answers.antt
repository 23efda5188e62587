-- `answering::answer_lines` meets its contract: from each line on, answering ends as it does from the first. Assumes nothing.
use Prim.Native.Nat.{ℕ, ◌≤◌}
use native.Mathlib.Omega.{arith}
use mathlib.Core.Path.{◌≡◌, sym, subst}
use mathlib.Core.List.{List}
use lib.ListN.{length}
use Rattle.lines.specs.Cut.{line_end, Ends}
use Rattle.lines.proofs.LineEnds.{line_ends}
use Rattle.replies.proofs.Writing.{writes_long}
use Rattle.answering.proofs.Feeding.{going_start, going_room, going_done, going_kept, going_on, going_full}
use Rattle.answering.proofs.answer_lines.Goals as goal

ended : (s : List ℕ) (p e : ℕ) → p ≤ length s → e ≡ line_end s p → Ends s p e
ended s p e h f = subst (Ends s p) (sym f) (line_ends s p h)

pub loop-next-init : goal.loop-next-init
loop-next-init c =
    let a = c.args in
    going_start a.mem.now a.line.now a.input.now a.p a.out.now c.requires

pub returns-then-e-input : goal.returns-then-e-input
returns-then-e-input c =
    let a = c.args in
    let l = c.loop-next in
    let w = ended a.input.now l.next c.line_end-e.result (omega arith) c.line_end-e.ensures in
    going_kept a.mem.now a.line.now l.invariant c.line_end-e.result (omega arith) w c.if-e-input.true c.keep.ensures

pub slice_bounds-end_line-count : goal.slice_bounds-end_line-count
slice_bounds-end_line-count c =
    let k = c.line_end-e in
    let w = ended c.args.input.now c.loop-next.next k.result (omega arith) k.ensures in
    w.from

pub slice_bounds-end_line-start : goal.slice_bounds-end_line-start
slice_bounds-end_line-start c =
    let k = c.line_end-e in
    let w = ended c.args.input.now c.loop-next.next k.result (omega arith) k.ensures in
    w.from

pub slice_bounds-end_line-end : goal.slice_bounds-end_line-end
slice_bounds-end_line-end c =
    let k = c.line_end-e in
    let w = ended c.args.input.now c.loop-next.next k.result (omega arith) k.ensures in
    w.within

pub end_line-requires : goal.end_line-requires
end_line-requires c = going_room c.args.mem.now c.args.line.now c.loop-next.invariant

pub overflow_sub-out : goal.overflow_sub-out
overflow_sub-out c =
    let r = going_room c.args.mem.now c.args.line.now c.loop-next.invariant in
    omega (arith, c.end_line.ensures.answered.short, writes_long c.end_line.ensures.answered.written)

pub returns-then-out-lt-ANSWER_LIMIT : goal.returns-then-out-lt-ANSWER_LIMIT
returns-then-out-lt-ANSWER_LIMIT c =
    let a = c.args in
    let l = c.loop-next in
    let e = c.line_end-e.result in
    let w = ended a.input.now l.next e (omega arith) c.line_end-e.ensures in
    let r = c.end_line.ensures in
    going_full a.mem.now a.line.now l.invariant e (omega arith) w (omega (arith, w.within)) r.begun r.answered c.if-out-lt-ANSWER_LIMIT.true

pub loop-next-smaller : goal.loop-next-smaller
loop-next-smaller c =
    let k = c.line_end-e in
    let w = ended c.args.input.now c.loop-next.next k.result (omega arith) k.ensures in
    omega (arith, w.from, w.within)

pub loop-next-preserved : goal.loop-next-preserved
loop-next-preserved c =
    let a = c.args in
    let l = c.loop-next in
    let e = c.line_end-e.result in
    let w = ended a.input.now l.next e (omega arith) c.line_end-e.ensures in
    let r = c.end_line.ensures in
    going_on a.mem.now a.line.now l.invariant e (omega arith) w (omega (arith, w.within)) r.begun r.answered c.if-out-lt-ANSWER_LIMIT.false

pub returns : goal.returns
returns c =
    let a = c.args in
    going_done a.mem.now a.line.now c.loop-next.invariant (omega arith)
