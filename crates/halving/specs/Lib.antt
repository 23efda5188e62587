-- What a test that is asked by number parts.
pub mod Halving
