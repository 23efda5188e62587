-- `Search` has the answer, `Promises` what a reader may conclude. Assumes nothing.
pub mod Search
pub mod Promises
