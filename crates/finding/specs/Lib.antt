-- `Find` has what a search finds in a memory. Assumes nothing.
pub mod Find
