-- `ReadLine` reads a line, and `Answers` has what the contracts cite besides. Assumes nothing.
pub mod ReadLine
pub mod Answers
