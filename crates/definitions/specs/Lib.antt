-- Document 01's definitions, and behind `Runs` request 2's, one file a subject, in its order.
pub mod Location
pub mod Blocks
pub mod Places
pub mod Rows
pub mod Runs
pub mod Conflicts
pub mod Causes
pub mod Refusals
pub mod SpaceKinds
pub mod Calls
pub mod Recording
pub mod BlockStream
pub mod Program
pub mod Promises
pub mod Starred
pub mod Examples
