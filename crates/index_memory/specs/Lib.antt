-- `Log` has the bytes of the log, `Index` what a memory holds. Assumes nothing.
pub mod Log
pub mod Index
