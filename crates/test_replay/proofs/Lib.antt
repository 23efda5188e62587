-- `Replaying` has the laws of digits and of lines that are replayed. Assumes nothing.
pub mod Replaying
