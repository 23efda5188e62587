-- `index_memory::log_right` meets its contract: what is left of the log, with the charges so far, always decides the same. Assumes nothing.
use Rattle.std.proofs.Common.{◌+◌, ◌-◌, ◌*◌}
use Rattle.memory_header.specs.Answers.{header_of}
use Rattle.index_memory.proofs.LogWalk.{Walking}
use Rattle.index_memory.proofs.log_right.Given as goal

abbrev pub invariant-loop-k : goal.invariant-loop-k
invariant-loop-k l = Walking l.mem (header_of l.h) l.nodes l.entries (64 + 48 * l.k) (l.h.payload - l.k)
