-- For other crates: `Holding` has the laws of what a set holds, `Adding` those of adding one list after another, `Scratch` places in bytes, `Triples` the records of `sort` as a set. `Sets` serves the functions' own proofs.
-- Assumes nothing.
pub mod Sets
pub mod Triples
pub mod Scratch
pub mod Adding
pub mod Holding
