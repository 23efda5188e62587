-- `All` has a test of many numbers, `Bytes` entries in memory, `Groups` those at one address, `Stored` what a stored certificate
-- tells, `Right` that the tests are passed by it alone. Assumes nothing.
pub mod All
pub mod Bytes
pub mod Counting
pub mod Groups
pub mod Stored
pub mod Right
pub mod Answers
