-- `Entries` has the entries of a certificate one by one, `Groups` those at one address, `Stored` the whole of it beside the log.
-- Assumes nothing.
pub mod Entries
pub mod Groups
pub mod Stored
