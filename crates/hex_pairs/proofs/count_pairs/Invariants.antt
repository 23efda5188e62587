-- `hex_pairs::count_pairs` meets its contract: the pairs passed, and what is still to be counted, are always the same. Assumes nothing.
use Prim.Native.Nat.{◌*◌}
use mathlib.Core.Path.{◌≡◌}
use lib.ListN.{drop}
use Rattle.hex_pairs.specs.HexBytes.{hex_bytes}
use Rattle.hex_pairs.specs.HexAnswers.{counted}
use Rattle.hex_pairs.proofs.count_pairs.Given as goal

abbrev pub invariant-loop-n : goal.invariant-loop-n
invariant-loop-n l = counted l.n (hex_bytes (drop (2 * l.n) l.text)) ≡ counted 0 (hex_bytes l.text)
