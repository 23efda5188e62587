-- For other crates: `Sets` has what the members of a set decide, `Triples` locations as records, `Before` which places come
-- before one. `Search` and `Counting` serve the functions' own proofs. Assumes nothing.
pub mod Sets
pub mod Triples
pub mod Before
pub mod Search
pub mod Counting
