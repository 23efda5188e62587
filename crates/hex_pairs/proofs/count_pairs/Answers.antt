-- `hex_pairs::count_pairs` meets its contract: the pairs passed, and what is still to be counted, are always the same. Assumes nothing.
use Prim.Native.Nat.{◌+◌, ◌*◌, ◌≤◌, ◌<◌}
use native.Mathlib.Omega.{arith}
use mathlib.Core.Path.{◌≡◌, ap, ◌∙◌}
use mathlib.Core.List.{[], ◌∷◌}
use lib.ListN.{length, drop, length-drop}
use lib.Seq.{drop-drop}
use Rattle.std.proofs.lemmas.List.{take_rest}
use Rattle.std.proofs.lemmas.Slice.Eq.{slice_eq-Decides}
use Rattle.std.proofs.lemmas.Bool.Decides.{Decides-eqb}
use Rattle.hex_pairs.specs.HexAnswers.{counted}
use Rattle.hex_pairs.proofs.Steps.{pairs_short, pairs_end, pairs_on}
use Rattle.hex_pairs.proofs.count_pairs.Goals as goal

pub returns-then-is_none : goal.returns-then-is_none
returns-then-is_none c =
    let l = c.args.text.now in
    let n = c.loop-n.n in
    let t = drop (2 * n) l in
    let h : 2 ≤ length t = omega (arith, length-drop (2 * n) l) in
    let e = rw (take_rest l (2 * n), c.as_slice.ensures) at c.eq.ensures in
    let p = rw (c.pair_value.ensures, take_rest l (2 * n)) at c.if-is_none.ensures in
    c.then_some.ensures ∙ pairs_end t n h p c.eq.result (slice_eq-Decides Decides-eqb t (41 ∷ 41 ∷ []) c.eq.result e) ∙ c.loop-n.invariant

pub loop-n-preserved : goal.loop-n-preserved
loop-n-preserved c =
    let l = c.args.text.now in
    let n = c.loop-n.n in
    let t = drop (2 * n) l in
    let h : 2 ≤ length t = omega (arith, length-drop (2 * n) l) in
    let p = rw (c.pair_value.ensures, take_rest l (2 * n)) at c.if-is_none.ensures in
    let q : 2 * (n + 1) ≡ 2 * n + 2 = omega arith in
    rw (q, ← drop-drop 2 (2 * n) l) (pairs_on t n h p ∙ c.loop-n.invariant)

pub returns : goal.returns
returns c =
    let l = c.args.text.now in
    let n = c.loop-n.n in
    let h : length (drop (2 * n) l) < 2 = omega (arith, length-drop (2 * n) l) in
    ap (counted n) (pairs_short (drop (2 * n) l) h) ∙ c.loop-n.invariant
