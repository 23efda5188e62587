-- `end_places::find_places` meets its contract: path by path, what ends there is joined with the places behind it; the last path is the query. Assumes nothing.
use Prim.Native.Nat.{ℕ, ◌+◌, ◌-◌}
use native.Mathlib.Omega.{arith}
use mathlib.Core.Path.{◌≡◌, sym, ap, ◌∙◌}
use mathlib.Core.List.{[]}
use lib.ListN.{take, drop, length-drop}
use lib.Dec.{eqb}
use Rattle.collecting.proofs.Callers.{standing_found}
use Rattle.node_joining.specs.Found.{rooted}
use Rattle.end_places.proofs.Progress.{root_found, walked_path, walked_at, walked_table, walked_lists, walked_listed, laid_found, child_found, child_nothing, path_next, path_last, progress_start, progress_at, progress_none, progress_next, progress_over, progress_end, behind_path}
use Rattle.end_places.proofs.Laying.{laid_taken}
use Rattle.end_places.proofs.find_places.Goals as goal

pub loop-j-init : goal.loop-j-init
loop-j-init c =
    let args = c.args in
    let none : args.i - args.i ≡ 0 = omega arith in
    let one : 1 ≡ args.i + 1 - args.i = omega arith in
    let root = walked_path (ap (λ (k : ℕ). take k (drop args.i args.search.query.bytes.now)) (sym none)) (walked_at [] c.node_at-n.ensures (root_found args.search.sound)) in
    (root, progress_at 1 (args.i + 1 - args.i) one (progress_start c.if-places.false (eqb args.i 0) (rooted args.search.query.img.now) (drop args.i args.search.query.bytes.now) (omega (arith, length-drop args.i args.search.query.bytes.now))))

pub node_at-n-requires : goal.node_at-n-requires
node_at-n-requires c = laid_found (root_found c.args.search.sound)

pub child_of-requires : goal.child_of-requires
child_of-requires c = walked_table c.loop-j.invariant.0

pub returns-in_default : goal.returns-in_default
returns-in_default c =
    let args = c.args in
    let turn = c.loop-j in
    progress_none args.search.query.img.now turn.invariant.1 (child_nothing turn.invariant.0 _ (path_next args.search.query.bytes.now args.i turn.j turn.auto.j (omega arith)) c.in_default.ensures)

pub node_at-n-requires-in-loop-j : goal.node_at-n-requires-in-loop-j
node_at-n-requires-in-loop-j c =
    let args = c.args in
    let turn = c.loop-j in
    laid_found (child_found turn.invariant.0 _ (path_next args.search.query.bytes.now args.i turn.j turn.auto.j (omega arith)) c.in-Some.ensures)

pub join_behind-requires : goal.join_behind-requires
join_behind-requires c =
    let args = c.args in
    let turn = c.loop-j in
    let w = child_found turn.invariant.0 _ (path_next args.search.query.bytes.now args.i turn.j turn.auto.j (omega arith)) c.in-Some.ensures in
    let t = turn.invariant.1.taken in
    (walked_listed (walked_at (take (turn.j + 1 - args.i) (drop args.i args.search.query.bytes.now)) c.node_at-n-in-loop-j.ensures w) args.search.sound, omega arith, omega arith, laid_taken args.i c.requires.1 c.requires.2 t, t.same_base ∙ c.requires.2)

pub returns-in_err-join_behind : goal.returns-in_err-join_behind
returns-in_err-join_behind c =
    let args = c.args in
    let turn = c.loop-j in
    let w = child_found turn.invariant.0 _ (path_next args.search.query.bytes.now args.i turn.j turn.auto.j (omega arith)) c.in-Some.ensures in
    let stands = walked_at (take (turn.j + 1 - args.i) (drop args.i args.search.query.bytes.now)) c.node_at-n-in-loop-j.ensures w in
    let long = length-drop args.i args.search.query.bytes.now in
    rw c.from_residual.ensures (progress_over args.search.query.img.now turn.invariant.1 c.node_at-n-in-loop-j.result (walked_lists stands) (omega arith) _ (behind_path (rooted args.search.query.img.now) args.search.query.bytes.now args.i (turn.j + 1) (omega arith)) c.in_err-join_behind.ensures)

pub loop-j-preserved : goal.loop-j-preserved
loop-j-preserved c =
    let args = c.args in
    let turn = c.loop-j in
    let w = child_found turn.invariant.0 _ (path_next args.search.query.bytes.now args.i turn.j turn.auto.j (omega arith)) c.in-Some.ensures in
    let stands = walked_at (take (turn.j + 1 - args.i) (drop args.i args.search.query.bytes.now)) c.node_at-n-in-loop-j.ensures w in
    let more : turn.j + 1 - args.i + 1 ≡ turn.j + 1 + 1 - args.i = omega (arith, turn.auto.j) in
    let long = length-drop args.i args.search.query.bytes.now in
    (stands, progress_at (turn.j + 1 - args.i + 1) (turn.j + 1 + 1 - args.i) more (progress_next args.search.query.img.now turn.invariant.1 c.node_at-n-in-loop-j.result (walked_lists stands) (omega arith) _ (behind_path (rooted args.search.query.img.now) args.search.query.bytes.now args.i (turn.j + 1) (omega arith)) c.in_ok-join_behind.ensures))

pub child_of-requires-2 : goal.child_of-requires-2
child_of-requires-2 c = walked_table c.loop-j.invariant.0

pub returns-in_default-child_of : goal.returns-in_default-child_of
returns-in_default-child_of c =
    let args = c.args in
    let turn = c.loop-j in
    progress_none args.search.query.img.now turn.invariant.1 (child_nothing turn.invariant.0 _ (path_last args.search.query.bytes.now args.i turn.j turn.auto.j (omega arith) c.loop-j-test.false) c.in_default-child_of.ensures)

pub find_beyond-requires : goal.find_beyond-requires
find_beyond-requires c =
    let args = c.args in
    let turn = c.loop-j in
    standing_found (child_found turn.invariant.0 _ (path_last args.search.query.bytes.now args.i turn.j turn.auto.j (omega arith) c.loop-j-test.false) c.in-Some-child_of.ensures)

pub returns : goal.returns
returns c =
    let args = c.args in
    let turn = c.loop-j in
    progress_end args.search.query.img.now turn.invariant.1 (child_found turn.invariant.0 _ (path_last args.search.query.bytes.now args.i turn.j turn.auto.j (omega arith) c.loop-j-test.false) c.in-Some-child_of.ensures) (omega (arith, length-drop args.i args.search.query.bytes.now, c.loop-j-test.false)) c.find_beyond.ensures
