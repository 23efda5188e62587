-- For other crates: `Standing` has that rows written over their places are read back, `Answering` the answer by them.
-- The others serve the functions' own proofs: `Rows` has the first row of places in bytes, `Loops` the loops over rows. Assumes nothing.
pub mod Rows
pub mod Loops
pub mod Standing
pub mod Answering
