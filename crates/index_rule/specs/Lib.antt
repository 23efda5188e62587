-- `Promises` has what a reader may conclude. Assumes nothing.
pub mod Promises
