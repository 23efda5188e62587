-- `Part` has bytes of a piece, `High` words, highest byte first. Assumes nothing.
pub mod High
pub mod Part
