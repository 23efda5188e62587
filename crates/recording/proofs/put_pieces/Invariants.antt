-- `recording::put_pieces` meets its contract: what is left to be written, written, is always the same. Assumes nothing.
use Rattle.std.proofs.Common.{◌-◌}
use Rattle.location.specs.Plain.{plain}
use Rattle.recording.proofs.Recording.{Writing}
use Rattle.recording.proofs.put_pieces.Given as goal

abbrev pub invariant-loop-done : goal.invariant-loop-done
invariant-loop-done l = Writing (record { bytes = l.«data»; at = plain l.l }) l.from l.initial.mem l.mem l.done (l.count - l.done)
