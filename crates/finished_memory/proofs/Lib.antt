-- `Standing` has the memory of a finished index from an image that stands in it, `Holds` what such a memory holds. Assumes nothing.
pub mod Standing
pub mod Holds
pub mod Promised
