-- `tail_words::high_word` meets its contract: after k bytes it has the number of k bytes. Assumes nothing.
use mathlib.Core.Path.{◌≡◌}
use Rattle.tails.specs.Tails.{high}
use Rattle.tail_words.proofs.high_word.Given as goal

abbrev pub invariant-loop-k : goal.invariant-loop-k
invariant-loop-k l = l.x ≡ high l.k l.bytes 0
