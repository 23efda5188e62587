-- `Layout` has the sizes and the header of a lent memory, `Opening` what opening leaves, `Answers` what the code's headers mean.
-- Assumes nothing.
pub mod Layout
pub mod Opening
pub mod Answers
