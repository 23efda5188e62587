-- `Steps` has a law for each step of the code. Assumes nothing.
pub mod Steps
