-- `Copying` and `Closing` have the steps of a list. Assumes nothing.
pub mod Copying
pub mod Closing
