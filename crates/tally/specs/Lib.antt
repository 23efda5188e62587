-- `Phases` has the phases by their numbers, `Tallied` what a record and a finish make of a tally. Assumes nothing.
pub mod Phases
pub mod Tallied
