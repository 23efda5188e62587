-- `Steps` has a law for each step of the code, `Decoding` those of its loop over pairs. Assumes nothing.
pub mod Steps
pub mod Decoding
