-- What the code's answers mean. Assumes nothing.
use Rattle.std.specs.Prelude.{ℕ, ◌≡◌, true, List, Result, Ok, Err, Option, Some, None}
use Rattle.definitions.specs.declared.refusal.Refusal.{Refusal}
use Rattle.definitions.specs.Refusals.{number_of}
use Rattle.memory_header.specs.Answers.{header_of}
use Rattle.conflicts.specs.Promises.{filled}
use Rattle.certificate.specs.Stored.{pieces_in}
use Rattle.stream_recording.specs.Progress.{Progress, halted}
use Rattle.stream_recording.specs.declared.Progress as C
use Rattle.stream_recording.specs.declared.Stopped.{Stopped}

-- how far a stream is recorded, where there is more
abbrev pub progress_of : C.Progress → Progress
progress_of p = record { header = header_of p.header; at = p.at; taken = p.taken; number = 0; going = true }

-- behind a block that was entered, or not
abbrev pub entered_of : C.Progress → Result C.Progress Refusal → Progress
entered_of p (Ok q) = progress_of q
entered_of p (Err r) = halted (progress_of p) (number_of r)

-- behind the block at the cursor, where there was one
abbrev pub next_of : C.Progress → Result (Option C.Progress) Refusal → Progress
next_of p (Ok (Some q)) = progress_of q
next_of p (Ok None) = halted (progress_of p) 0
next_of p (Err r) = halted (progress_of p) (number_of r)

-- so many of the pieces that its header counts have a byte
abbrev pub Filled : List ℕ → C.Progress → Type 0
Filled m p = p.filled ≡ filled (pieces_in m (header_of p.header))

abbrev pub FilledNext : List ℕ → Result (Option C.Progress) Refusal → Type 0
FilledNext m (Ok (Some p)) = Filled m p
FilledNext m (Ok None) = Unit {0}
FilledNext m (Err r) = Unit {0}

-- a refusal behind so many blocks
abbrev pub Behind : ℕ → Refusal → Stopped → Type 0
Behind taken r s = s ≡ record { taken = taken; refusal = r }

-- the number of the refusal, 0 where all blocks were taken
abbrev pub streamed_number : Result ℕ Stopped → ℕ
streamed_number (Ok taken) = 0
streamed_number (Err s) = number_of s.refusal

-- how many blocks were taken
abbrev pub streamed_taken : Result ℕ Stopped → ℕ
streamed_taken (Ok taken) = taken
streamed_taken (Err s) = s.taken
