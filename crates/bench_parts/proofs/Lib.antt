-- `Queries` has laws of an image that passed the test and of queries that stand one behind another. Assumes nothing.
pub mod Queries
