-- `LineEnds` has where a line ends, `Keeping` what is kept of one. Assumes nothing.
pub mod LineEnds
pub mod Keeping
