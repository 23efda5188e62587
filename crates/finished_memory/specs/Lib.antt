-- `Finished` has the memory of a finished index, `Room` the capacity of one, `Promises` what a reader may conclude. Assumes nothing.
pub mod Finished
pub mod Room
pub mod Promises
