-- `Found` has what the code says of groups of tails, `Ranks` in which order groups arrived. Assumes nothing.
pub mod Found
pub mod Ranks
