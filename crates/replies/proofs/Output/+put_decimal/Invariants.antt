-- The proof of the cycle of calls {put_decimal}: the digits before the last are those of a tenth. The measure is the number. Assumes nothing.
use Rattle.replies.proofs.Output.+put_decimal.Given as goal

abbrev pub decreases-put_decimal : goal.decreases-put_decimal
decreases-put_decimal l = l.x
