-- `Rows` has what fixes rows, for callers. `Copied` serves `put_rows`. Assumes nothing.
pub mod Rows
pub mod Copied
