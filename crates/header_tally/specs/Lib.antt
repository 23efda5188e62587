-- `Tallies` has a header with another tally. Assumes nothing.
pub mod Tallies
