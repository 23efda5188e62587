-- `Ways` says what reading at a cursor gives, by what stands there; `Bounds` what is known of a block that was read. Assumes nothing.
pub mod Ways
pub mod Bounds
