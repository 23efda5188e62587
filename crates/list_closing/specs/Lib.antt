-- `Closed` says what the code leaves of a list. Assumes nothing.
pub mod Closed
