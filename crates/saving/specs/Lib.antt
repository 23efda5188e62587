-- `Saving` has save and load as functions on memory, `Promises` what the two promise of each other. Assumes nothing.
pub mod Saving
pub mod Promises
