-- `Search` has the calls as functions on memory, `Lent` the lent rows after one, `Promises` what the two have to do with each other.
-- Assumes nothing.
pub mod Search
pub mod Lent
pub mod Promises
