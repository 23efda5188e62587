-- Numbers that a call hands over beside its answer: only where it is not refused. Assumes nothing.
use Rattle.std.specs.Prelude.{ℕ, cond, List, set, eqb, Result, Ok, Err}

-- where a number is handed over, after a call with this refusal's number: it stays as it was unless that is 0
abbrev pub put_unless_refused : ℕ → ℕ → List ℕ → List ℕ
put_unless_refused refusal n xs = cond (eqb refusal 0) (set xs 0 n) xs

-- the same by the answer of a call, whatever it has for a refusal
abbrev pub count_after : {E : Type 0} → Result ℕ E → List ℕ → List ℕ
count_after (Ok n) xs = set xs 0 n
count_after (Err e) xs = xs
