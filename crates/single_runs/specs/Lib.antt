-- `Says` has what is said of all nodes below one, `Runs` and `Singles` the nodes that are stepped over at once. Assumes nothing.
pub mod Says
pub mod Runs
pub mod Singles
