-- `Keeping` and `KeptLines` have the laws of what is kept of a line, `Feeding` those of the loop over lines, `Turns` those of a
-- part that is answered in turns; `Cutting` says that cuts don't matter, `Following` that the memory answers as document 01
-- does. Assumes nothing.
pub mod Keeping
pub mod KeptLines
pub mod Feeding
pub mod Cutting
pub mod Turns
pub mod Following
