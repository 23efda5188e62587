-- `Parts` has what the numbers mean. Assumes nothing.
pub mod Parts
