-- For other crates: `Equations` has the answer by the pieces; `Answering` has the ways to an answer, `Standing` what stands in scratch. Assumes nothing.
pub mod Answering
pub mod Equations
pub mod Standing
