-- What the contracts of answers say. Assumes nothing.
use Rattle.std.specs.Prelude.{ℕ, ◌+◌, ◌≤◌, ◌≡◌, List}
use Rattle.replies.specs.declared.Output.{Output}
use Rattle.replies.specs.Outputs.{Writes}

-- the longest answer: 64 places of 71 bytes, and the end of 27
abbrev pub answer_limit : ℕ
answer_limit = 4571

-- an answer was written where an output went on, with the memory afterwards
pub record AnsweredBy (out : Output) (answer memory : List ℕ) (out' : Output) (memory' : List ℕ) : Type 0 where
  pub written : Writes out answer out'
  pub short : out'.at ≤ out.at + answer_limit
  pub leaves : memory' ≡ memory
