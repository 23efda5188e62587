-- `hex_pairs::decode` meets its contract: what is still to be written, written, is always the same. Assumes nothing.
use Prim.Native.Nat.{◌+◌, ◌-◌, ◌*◌}
use mathlib.Core.Path.{◌≡◌}
use lib.Seq.{sets}
use Rattle.hex_pairs.specs.HexAnswers.{pairs_at}
use Rattle.hex_pairs.proofs.decode.Given as goal

abbrev pub invariant-loop-k : goal.invariant-loop-k
invariant-loop-k l = sets l.bytes l.k (pairs_at l.line (l.n - l.k) (l.from + 2 * l.k)) ≡ sets l.initial.bytes 0 (pairs_at l.line l.n l.from)
