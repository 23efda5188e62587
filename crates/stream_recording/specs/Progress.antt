-- How far a stream is recorded, block by block, before the header is written. Assumes nothing.
use Rattle.std.specs.Prelude.{ℕ, ◌+◌, Bool, true, false, List}
use Rattle.definitions.specs.BlockStream.{Read, block, nothing, refused}
use Rattle.memory_header.specs.Layout.{Header}
use Rattle.judging.specs.Judged.{Verdict, counted}
use Rattle.judging.specs.Judged as J
use Rattle.recording.specs.Enter.{judged_by_kind, entered}

-- the header that counts what was taken, the cursor, how many were taken, and whether there is more; if not, the number
pub record Progress : Type 0 where
  pub header : Header
  pub at : ℕ
  pub taken : ℕ
  pub number : ℕ
  pub going : Bool

-- no further block is taken
abbrev pub halted : Progress → ℕ → Progress
halted p n = record { header = p.header; at = p.at; taken = p.taken; number = n; going = false }

-- a block that is taken is counted, and the next one stands behind it
abbrev pub on_or_halted : Progress → ℕ → Verdict → Progress
on_or_halted p next (counted h) = record { header = h; at = next; taken = p.taken + 1; number = 0; going = true }
on_or_halted p next (J.refused n) = halted p n

-- by what was read at the cursor, and what the memory holds
abbrev pub next_progress : List ℕ → Progress → Read → Progress
next_progress m p (block kind b next) = on_or_halted p next (judged_by_kind m p.header kind b)
next_progress m p nothing = halted p 0
next_progress m p (refused n) = halted p n

-- and the memory, whose header is not written
abbrev pub entered_next : List ℕ → Header → Read → List ℕ
entered_next m h (block kind b next) = entered m h kind b
entered_next m h nothing = m
entered_next m h (refused n) = m
