-- `reading::read_full` meets its contract: the first n bytes are those that were taken. Assumes nothing.
use Rattle.std.proofs.Common.{◌≡◌, ℕ, ◌+◌, ◌≤◌, List, ◌++◌, rules, length, take, sym, ap, ◌∙◌, subst}
use Rattle.std.specs.Io.KnownBytes.{Consumes}
use Rattle.std.proofs.KnownBytes.{Consumes-trans}
use lib.Seq.{length-take-le, take-append-add, take-append-le}
use borrow.Rule.Slice.PartMut.{put_mid, post_of}
use Rattle.reading.proofs.read_full.Goals as goal

-- the first n bytes, and behind them the first k of what was read there
filled_on : (n k m : ℕ) (xs ys : List ℕ) → n ≤ length xs → k ≤ length ys → take n xs ++ take k ys ≡ take (n + k) (put_mid n m xs ys)
filled_on n k m xs ys h j =
    let after : List ℕ = ys ++ post_of n m xs in
    sym
    (ap (λ (i : ℕ). take (i + k) (take n xs ++ after)) (sym (length-take-le n xs h)) ∙ take-append-add (take n xs) after k
    ∙ ap (λ (l : List ℕ). take n xs ++ l) (take-append-le k ys (post_of n m xs) j))

pub loop-n-preserved : goal.loop-n-preserved
loop-n-preserved g c =
    let l = c.loop-n in
    let k = c.in_ok-k in
    (search rules, subst (Consumes _ _) (filled_on l.n k.k _ l.bytes c.read_part.new.part l.invariant.0 k.ensures.within.0) (Consumes-trans _ _ _ _ _ l.invariant.1 k.ensures.bytes))
