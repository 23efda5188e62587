-- `Stages` has the places of a query path by path, `Nodes` what a node gives. Assumes nothing.
pub mod Asked
pub mod Stages
pub mod Nodes
