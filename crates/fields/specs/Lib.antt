-- `Answers` has what the code's answers mean, `Singles` runs of nodes that are stepped over at once. Assumes nothing.
pub mod Answers
pub mod Singles
