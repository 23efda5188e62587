-- `Due` has what is computed of chunks, `Cited` what the functions ask for and say, `Promises` what a reader may conclude. Assumes nothing.
pub mod Due
pub mod Cited
pub mod Promises
