-- `Bytes` has what a client cites of locations in bytes, `Order` what it cites of the order. Assumes nothing.
pub mod Bytes
pub mod Order
