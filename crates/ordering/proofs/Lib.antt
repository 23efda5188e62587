-- `Writes` has bytes written before others and entries moved, `Merging` new pieces entered into an order, `Standing` the bytes of entries
-- in memory, `Moving` what stands there after each new piece, `Turns` a turn of the loop that enters them. Assumes nothing.
pub mod Writes
pub mod Merging
pub mod Standing
pub mod Moving
pub mod Turns
