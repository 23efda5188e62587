-- `Cut` has the lines of an input, `Kept` what is kept of an unfinished one. Assumes nothing.
pub mod Cut
pub mod Kept
