-- `Closing` has the laws of a list that is sorted and counted. Assumes nothing.
pub mod Closing
