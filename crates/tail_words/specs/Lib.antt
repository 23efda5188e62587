-- `Tail` has a tail as words. Assumes nothing.
pub mod Tail
