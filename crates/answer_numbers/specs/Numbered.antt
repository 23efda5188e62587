-- Answers with any number in place of a refusal. Assumes nothing.
use Rattle.std.specs.Prelude.{ℕ, Result, Ok, Err}
use Rattle.definitions.specs.declared.refusal.Refusal.{Refusal}
use Rattle.definitions.specs.Refusals.{number_of}
use Rattle.stream_recording.specs.declared.Stopped.{Stopped}
use Rattle.answer_numbers.specs.declared.StoppedAt.{StoppedAt}

-- a refusal by its number
abbrev pub numbered : {A : Type 0} → Result A Refusal → Result A ℕ
numbered (Ok x) = Ok x
numbered (Err r) = Err (number_of r)

-- the number, 0 where there is none
abbrev pub number_or_zero : {A : Type 0} → Result A ℕ → ℕ
number_or_zero (Ok x) = 0
number_or_zero (Err n) = n

-- a stream that was stopped by a refusal, by its number
abbrev pub stop_numbered : Result ℕ Stopped → Result ℕ StoppedAt
stop_numbered (Ok taken) = Ok taken
stop_numbered (Err s) = Err (record { taken = s.taken; number = number_of s.refusal })

-- the number at which a stream stopped, 0 at its end
abbrev pub stop_number : Result ℕ StoppedAt → ℕ
stop_number (Ok taken) = 0
stop_number (Err s) = s.number

-- how many blocks were taken
abbrev pub stop_taken : Result ℕ StoppedAt → ℕ
stop_taken (Ok taken) = taken
stop_taken (Err s) = s.taken
