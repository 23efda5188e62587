-- `Order` has the order of records, `Lists` sorting, dropping repeats and searching on lists, `Bytes` records in bytes; `Compare`
-- and `Repeats` serve the functions. Assumes nothing.
pub mod Order
pub mod Lists
pub mod Bytes
pub mod Compare
pub mod Repeats
