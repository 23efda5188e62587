-- `Saying` has laws of what is said, `Vectors` of where a vector leads. Assumes nothing.
pub mod Saying
pub mod Vectors
