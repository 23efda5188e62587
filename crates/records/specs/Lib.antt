-- `Records` has records in bytes: their order, sorting, dropping repeats, searching. Assumes nothing.
pub mod Records
