-- `hex_pairs::decode` meets its contract: what is still to be written, written, is always the same. Assumes nothing.
use native.Mathlib.Omega.{arith}
use mathlib.Core.Path.{◌∙◌}
use Rattle.hex_pairs.proofs.Decoding.{decode_turn, decode_end}
use Rattle.hex_pairs.proofs.decode.Goals as goal

pub loop-k-preserved : goal.loop-k-preserved
loop-k-preserved c =
    let a = c.args in
    let k = c.loop-k in
    rw (c.unwrap_or.ensures, c.pair_value.ensures) (decode_turn a.line.now k.bytes a.from a.n k.k (omega arith) ∙ k.invariant)

pub returns : goal.returns
returns c =
    let a = c.args in
    let k = c.loop-k in
    decode_end a.line.now k.bytes a.from a.n k.k (omega arith) ∙ k.invariant
