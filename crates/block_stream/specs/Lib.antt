-- `Answer` gives the code's answers their meaning. Assumes nothing.
pub mod Answer
