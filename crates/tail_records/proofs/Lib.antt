-- `Write` has one record, `Log` and `Entering` those of a piece and of all. Assumes nothing.
pub mod Write
pub mod Log
pub mod Entering
