-- `Forest` has the laws of all nodes, `RunBelow` those of runs with their fronts. Assumes nothing.
pub mod Forest
pub mod RunBelow
