-- `Lined` has entries in line, `Order` the order of pieces and its certificate, `Promises` what a reader may conclude. Assumes nothing.
pub mod Lined
pub mod Order
pub mod Promises
