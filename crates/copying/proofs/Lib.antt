-- `Steps` has the laws of the two loops. Assumes nothing.
pub mod Steps
