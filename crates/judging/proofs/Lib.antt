-- `Ways` has the ways out of the checks. Assumes nothing.
pub mod Ways
