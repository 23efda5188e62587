-- `stream_recording::record_blocks` meets its contract: what is left to be recorded, recorded, is always the same. Assumes nothing.
use Rattle.stream_recording.specs.Answers.{progress_of, Filled}
use Rattle.stream_recording.proofs.Streaming.{Going, steps_left}
use Rattle.stream_recording.proofs.record_blocks.Given as goal

abbrev pub invariant-loop-next : goal.invariant-loop-next
invariant-loop-next l = Going l.stream l.initial.mem l.mem (progress_of l.p) × Filled l.mem l.p

abbrev pub decreases-loop-next : goal.decreases-loop-next
decreases-loop-next l = steps_left l.stream l.initial.mem (progress_of l.p)
