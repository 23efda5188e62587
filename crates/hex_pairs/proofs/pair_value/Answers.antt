-- `hex_pairs::pair_value` meets its contract: both bytes are digits, or one is none. Assumes nothing.
use native.Mathlib.Omega.{arith}
use Rattle.hex_pairs.proofs.Steps.{digit_none, digit_some, pair_first, pair_second, pair_both}
use Rattle.hex_pairs.proofs.pair_value.Goals as goal

pub returns-then-h-ge-NO_DIGIT : goal.returns-then-h-ge-NO_DIGIT
returns-then-h-ge-NO_DIGIT c = pair_first _ _ (digit_none _ _ c.digit_value-h.ensures (omega arith))

pub returns-then-l-ge-NO_DIGIT : goal.returns-then-l-ge-NO_DIGIT
returns-then-l-ge-NO_DIGIT c =
    pair_second _ _ (digit_some _ _ c.digit_value-h.ensures (omega arith)) (digit_none _ _ c.digit_value-l.ensures (omega arith))

pub returns : goal.returns
returns c =
    pair_both _ _ (digit_some _ _ c.digit_value-h.ensures (omega arith)) (digit_some _ _ c.digit_value-l.ensures (omega arith))
