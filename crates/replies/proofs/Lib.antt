-- `Writing` has the laws of what is written. Assumes nothing.
pub mod Writing
