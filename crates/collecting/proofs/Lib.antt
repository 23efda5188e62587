-- For other crates: `Callers` has what a caller goes by. `Nodes`, `Passing` and `Following` serve the functions' own proofs. Assumes nothing.
pub mod Callers
pub mod Nodes
pub mod Passing
pub mod Following
