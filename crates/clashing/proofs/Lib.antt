-- `Striking` has an entry that is struck, `Reaching` and `Passing` the steps of the loops, `Splitting` and `Deciding` why the two
-- searches answer whether a block conflicts. Assumes nothing.
pub mod Striking
pub mod Reaching
pub mod Passing
pub mod Splitting
pub mod Deciding
pub mod Answering
