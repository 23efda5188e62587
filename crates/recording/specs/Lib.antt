-- `Cut` has the pieces of a block by their number, `Record` what recording leaves, `Enter` the same before the header is written,
-- `Promises` what a reader may conclude. Assumes nothing.
pub mod Cut
pub mod Record
pub mod Enter
pub mod Promises
