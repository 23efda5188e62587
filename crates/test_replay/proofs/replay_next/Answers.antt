-- `test_replay::replay_next` meets its contract. Assumes nothing.
use Prim.Native.Nat.{ℕ, ◌+◌, ◌<◌}
use native.Mathlib.Omega.{arith}
use mathlib.Core.Path.{◌≡◌, sym, ap, subst}
use mathlib.Core.List.{List}
use lib.ListN.{length}
use Rattle.std.proofs.lemmas.Result.{err_from_is_err_and}
use Rattle.lines.specs.Cut.{line_end, Ends}
use Rattle.lines.proofs.LineEnds.{line_ends}
use Rattle.replies.proofs.Writing.{writes_long}
use Rattle.test_replay.proofs.Replaying.{next_taken, next_end}
use Rattle.test_replay.proofs.replay_next.Goals as goal

ended : (s : List ℕ) (p e : ℕ) → p < length s → e ≡ line_end s p → Ends s p e
ended s p e h f = subst (Ends s p) (sym f) (line_ends s p (omega arith))

pub slice_bounds-replay_line-count : goal.slice_bounds-replay_line-count
slice_bounds-replay_line-count g c =
    let k = c.line_end-e in
    let w = ended c.args.input.now c.args.p k.result (omega arith) k.ensures in
    omega (arith, w.from, w.within)

pub slice_bounds-replay_line-start : goal.slice_bounds-replay_line-start
slice_bounds-replay_line-start g c =
    let k = c.line_end-e in
    let w = ended c.args.input.now c.args.p k.result (omega arith) k.ensures in
    omega (arith, w.from, w.within)

pub slice_bounds-replay_line-end : goal.slice_bounds-replay_line-end
slice_bounds-replay_line-end g c =
    let k = c.line_end-e in
    let w = ended c.args.input.now c.args.p k.result (omega arith) k.ensures in
    omega (arith, w.from, w.within)

pub print_answer-requires : goal.print_answer-requires
print_answer-requires g c =
    let r = c.replay_line.ensures in
    omega (arith, r.within, writes_long r.written)

pub overflow_add-result : goal.overflow_add-result
overflow_add-result g c =
    let k = c.line_end-e in
    let w = ended c.args.input.now c.args.p k.result (omega arith) k.ensures in
    omega (arith, w.from, w.within)

pub returns-in_err-print_answer-clause-replays_next : goal.returns-in_err-print_answer-clause-replays_next
returns-in_err-print_answer-clause-replays_next g c =
    let k = c.line_end-e in
    let p = err_from_is_err_and c.from_residual.result c.from_residual.ensures.1 in
    rw (p.1) (next_end c.args.input.now c.args.p k.result k.ensures c.replay_line.ensures)

pub returns : goal.returns
returns g c =
    let k = c.line_end-e in
    let a = c.args in
    let w = ended a.input.now a.p k.result (omega arith) k.ensures in
    record { replays_next = next_taken a.input.now a.p k.result k.ensures c.replay_line.ensures; taken = ap (λ (x : ℕ). x + 1) k.ensures; lower_bound = omega (arith, w.from, w.within) }
