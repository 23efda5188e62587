-- What the code's verdicts mean. Assumes nothing.
use Rattle.std.specs.Prelude.{Result, Ok, Err}
use Rattle.definitions.specs.declared.refusal.Refusal.{Refusal}
use Rattle.definitions.specs.Refusals.{number_of}
use Rattle.memory_header.specs.Answers.{header_of}
use Rattle.memory_header.specs.declared.Header.{Header}
use Rattle.judging.specs.Judged.{Verdict, counted, refused}

-- the header that counts the block, or the number of its refusal
abbrev pub verdict_of : Result Header Refusal → Verdict
verdict_of (Ok h) = counted (header_of h)
verdict_of (Err r) = refused (number_of r)
