-- `Tail` has a record and its tail, `Memory` tails in memory, `Runs`, `Front`, `Finding` runs and groups, `Ranks`, `Arrival`, `Distinct` the order
-- in which these arrived, `Buffer` and `Results` what the work area holds. Assumes nothing.
pub mod Tail
pub mod Memory
pub mod Runs
pub mod Front
pub mod Finding
pub mod Ranks
pub mod Arrival
pub mod Buffer
pub mod Distinct
pub mod Results
