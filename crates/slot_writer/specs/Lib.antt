-- `Turns` has the turns of a table as they are written. Assumes nothing.
pub mod Turns
