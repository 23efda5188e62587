-- `Whole` goes from the root to all nodes, `Theorems` has the promises. Assumes nothing.
pub mod Whole
pub mod Theorems
