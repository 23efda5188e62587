-- What the specs promise of the memory that finish and load leave is proved. Assumes nothing.
use Rattle.finished_memory.specs.Promises.{FinishedHolds, FinishedTally}
use Rattle.finished_memory.proofs.Holds as holds

pub finished_holds : FinishedHolds
finished_holds = holds.finished_holds

pub finished_tally : FinishedTally
finished_tally = holds.header
