-- `Heads` has what stands in front of a table, `Kids` and `Nodes` what a writer is asked and leaves, `Singles` nodes with one child. Assumes nothing.
pub mod Kids
pub mod Heads
pub mod Nodes
pub mod Singles
