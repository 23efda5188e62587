-- `Log` has the records of a log's tails. Assumes nothing.
pub mod Log
